-- Schemas by truth tables: what makes each instance of a schema keep truth is computed from the schema.
use Rattle.std.proofs.Common.{◌≡◌, [], ◌∷◌, Bool, true, false, not, ◌&&◌, ◌||◌, inl, inr, refl}
use Rattle.std.proofs.lemmas.Bool.{or_cases, or_left, or_right}
use Rattle.std.specs.List.{list_all, list_any}
use Rattle.term_model.specs.declared.symbols.Sort.{Sort}
use Rattle.term_model.specs.declared.symbols.Op.{Op}
use Rattle.term_model.specs.Terms.{Term, no_terms, term}
use Rattle.term_model.specs.Values.{Value, truth, as_truth}
use Rattle.term_model.specs.Operators.{meaning}
use Rattle.term_model.specs.Interpretations.{Interpretation}
use Rattle.term_model.specs.Meaning.{Valuation, value}
use Rattle.term_model.specs.Sorts.{IsOf}
use Rattle.term_model.proofs.Basics.{and-left, and-right}
use Rattle.rule_model.specs.declared.letter.Letter.{Letter}
use Rattle.rule_model.specs.Schemas.{Pattern, letter, nullary, unary, binary, ternary, fill, Schema}
use Rattle.rule_model.proofs.Arguments.{are_truths, all_arguments_are_truths, choices_are_truths}

-- the value of a pattern, where its letters have these
abbrev pub pattern_value : (Letter → Value) → Pattern → Value
pattern_value v (letter l) = v l
pattern_value v (nullary op) = meaning op []
pattern_value v (unary op p) = meaning op (pattern_value v p ∷ [])
pattern_value v (binary op p q) = meaning op (pattern_value v p ∷ pattern_value v q ∷ [])
pattern_value v (ternary op p q r) = meaning op (pattern_value v p ∷ pattern_value v q ∷ pattern_value v r ∷ [])

pub fill_value : (I : Interpretation) (r : Valuation) (terms : Letter → Term) (p : Pattern) → value I r (fill terms p) ≡ pattern_value (λ l. value I r (terms l)) p
fill_value I r terms (letter l) = refl
fill_value I r terms (nullary op) = refl
fill_value I r terms (unary op p) = rw (fill_value I r terms p) refl
fill_value I r terms (binary op p q) = rw (fill_value I r terms p, fill_value I r terms q) refl
fill_value I r terms (ternary op p q s) =
    rw (fill_value I r terms p, fill_value I r terms q, fill_value I r terms s) refl

-- whether a letter is in a pattern
abbrev pub is_same : Letter → Letter → Bool
is_same Letter.A Letter.A = true
is_same Letter.B Letter.B = true
is_same Letter.C Letter.C = true
is_same Letter.D Letter.D = true
is_same _ _ = false

abbrev pub is_in : Letter → Pattern → Bool
is_in l (letter m) = is_same l m
is_in l (nullary op) = false
is_in l (unary op p) = is_in l p
is_in l (binary op p q) = is_in l p || is_in l q
is_in l (ternary op p q r) = is_in l p || (is_in l q || is_in l r)

-- whether a letter is of Bool where the pattern is
abbrev pub is_truth_in : Letter → Pattern → Bool
is_truth_in l (letter m) = is_same l m
is_truth_in l (nullary op) = false
is_truth_in l (unary op p) = are_truths op && is_truth_in l p
is_truth_in l (binary op p q) = are_truths op && (is_truth_in l p || is_truth_in l q)
is_truth_in l (ternary Op.Ite p q r) = is_truth_in l p || (is_truth_in l q || is_truth_in l r)
is_truth_in l (ternary op p q r) = false

same_letter : (P : Letter → Type 0) (l m : Letter) → is_same l m ≡ true → P m → P l
same_letter P Letter.A Letter.A e p = p
same_letter P Letter.B Letter.B e p = p
same_letter P Letter.C Letter.C e p = p
same_letter P Letter.D Letter.D e p = p
same_letter P _ _ e p = absurd cc

-- patterns have one value where their letters do
pub same_values : (v w : Letter → Value) (p : Pattern) → ((l : Letter) → is_in l p ≡ true → v l ≡ w l) → pattern_value v p ≡ pattern_value w p
same_values v w (letter Letter.A) same = same Letter.A refl
same_values v w (letter Letter.B) same = same Letter.B refl
same_values v w (letter Letter.C) same = same Letter.C refl
same_values v w (letter Letter.D) same = same Letter.D refl
same_values v w (nullary op) same = refl
same_values v w (unary op p) same = rw (same_values v w p same) refl
same_values v w (binary op p q) same =
    rw (same_values v w p (λ l e. same l (or_left (is_in l p) (is_in l q) e)), same_values v w q (λ l e. same l (or_right (is_in l p) (is_in l q) e))) refl
same_values v w (ternary op p q r) same =
    rw (
      same_values v w p (λ l e. same l (or_left (is_in l p) (is_in l q || is_in l r) e)),
      same_values v w q (λ l e. same l (or_right (is_in l p) (is_in l q || is_in l r) (or_left (is_in l q) (is_in l r) e))),
      same_values v w r (λ l e. same l (or_right (is_in l p) (is_in l q || is_in l r) (or_right (is_in l q) (is_in l r) e))),
    ) refl

-- a letter is of Bool where it is in a pattern of Bool
pub truth_letter : (terms : Letter → Term) (l : Letter) (p : Pattern) → is_truth_in l p ≡ true → IsOf (fill terms p) Sort.Bool → IsOf (terms l) Sort.Bool
truth_letter terms l (letter m) e h = same_letter (λ k. IsOf (terms k) Sort.Bool) l m e h
truth_letter terms l (nullary op) e h = absurd cc
truth_letter terms l (unary op p) e h =
    truth_letter terms l p (and-right (are_truths op) (is_truth_in l p) e)
    (all_arguments_are_truths op (term (fill terms p) no_terms) (and-left (are_truths op) (is_truth_in l p) e) h).0
truth_letter terms l (binary op p q) e h =
    let all = all_arguments_are_truths op (term (fill terms p) (term (fill terms q) no_terms)) (and-left (are_truths op) (is_truth_in l p || is_truth_in l q) e) h in
    elim (or_cases (is_truth_in l p) (is_truth_in l q) (and-right (are_truths op) (is_truth_in l p || is_truth_in l q) e)) [
      | inl f ↦ truth_letter terms l p f all.0
      | inr f ↦ truth_letter terms l q f all.1.0
    ]
truth_letter terms l (ternary Op.Ite p q r) e h =
    let all = choices_are_truths (fill terms p) (fill terms q) (fill terms r) h in
    elim (or_cases (is_truth_in l p) (is_truth_in l q || is_truth_in l r) e) [
      | inl f ↦ truth_letter terms l p f all.0
      | inr f ↦ elim (or_cases (is_truth_in l q) (is_truth_in l r) f) [
        | inl g ↦ truth_letter terms l q g all.1
        | inr g ↦ truth_letter terms l r g all.2
      ]
    ]
truth_letter terms l (ternary op p q r) e h = absurd cc

-- truth values for the letters
abbrev pub table : Bool → Bool → Bool → Bool → Letter → Value
table a b c d Letter.A = truth a
table a b c d Letter.B = truth b
table a b c d Letter.C = truth c
table a b c d Letter.D = truth d

-- whether a pattern is true
abbrev pub holds : (Letter → Value) → Pattern → Bool
holds v p = as_truth (pattern_value v p)

-- whether a literal is true where each premise is
abbrev pub keeps_truth_at : Schema → (Letter → Value) → Bool
keeps_truth_at schema v = not (list_all (holds v) schema.premises) || list_any (holds v) schema.clause

abbrev pub both : (Bool → Bool) → Bool
both f = f true && f false

abbrev pub keeps_truth : Schema → Bool
keeps_truth schema = both (λ a. both (λ b. both (λ c. both (λ d. keeps_truth_at schema (table a b c d)))))

-- whether each letter of the schema is of Bool where its premises and literals are
abbrev pub is_known : Schema → Letter → Bool
is_known schema l =
    (not (list_any (is_in l) schema.premises) && not (list_any (is_in l) schema.clause))
    || (list_any (is_truth_in l) schema.premises || list_any (is_truth_in l) schema.clause)

abbrev pub are_letters_known : Schema → Bool
are_letters_known schema =
    is_known schema Letter.A && (is_known schema Letter.B && (is_known schema Letter.C && is_known schema Letter.D))

abbrev pub is_sound : Schema → Bool
is_sound schema = keeps_truth schema && are_letters_known schema
