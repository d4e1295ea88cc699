-- Rows of a table of rewrites keep values and sorts. What makes a row over truth values do so is computed from it.
use Rattle.std.proofs.Common.{◌≡◌, inl, inr, List, [], ◌∷◌, Bool, true, false, not, ◌&&◌, ◌||◌, Some, refl, sym, ap, ◌∙◌, subst}
use Rattle.std.proofs.lemmas.Bool.{or_cases, or_left, or_right}
use Rattle.term_model.specs.declared.symbols.Op.{Op}
use Rattle.term_model.specs.declared.symbols.Sort.{Sort}
use Rattle.term_model.specs.Interpretations.{Interpretation}
use Rattle.term_model.specs.Meaning.{Valuation, ValuationFits, value}
use Rattle.term_model.specs.Sorts.{IsOf, AreOf, choice_sort}
use Rattle.term_model.specs.Terms.{Term, Terms, operation, term, no_terms, terms_of}
use Rattle.term_model.specs.Values.{Value, truth, whole, as_truth}
use Rattle.term_model.proofs.Basics.{and-left, and-right, not_both}
use Rattle.term_model.proofs.Sorting.{when-same, choice_sort-branches, value_has_sort, bool_value}
use Rattle.term_model.proofs.Tests.{sort_eq_decides}
use Rattle.rule_model.specs.declared.letter.Letter.{Letter}
use Rattle.rule_model.specs.Rewriting.{Guard, always, truths, one_number, two_numbers, below, at_most, PassesGuard, RewriteRow}
use Rattle.rule_model.specs.Schemas.{Pattern, letter, nullary, unary, binary, ternary, fill}
use Rattle.rule_model.proofs.TruthTables.{pattern_value, fill_value, is_in, is_truth_in, same_values, truth_letter, table, both}

-- whether an operator gives a truth value, and whether a pattern has one where it is well sorted
abbrev gives_truth : Op → Bool
gives_truth Op.True = true
gives_truth Op.False = true
gives_truth Op.Not = true
gives_truth Op.Implies = true
gives_truth Op.And = true
gives_truth Op.Or = true
gives_truth Op.Xor = true
gives_truth Op.Equal = true
gives_truth _ = false

abbrev pub is_of_truths : Pattern → Bool
is_of_truths (letter l) = false
is_of_truths (nullary op) = gives_truth op
is_of_truths (unary op p) = gives_truth op
is_of_truths (binary op p q) = gives_truth op
is_of_truths (ternary Op.Ite p q r) = is_of_truths q || is_of_truths r
is_of_truths (ternary op p q r) = false

gives_bool : (op : Op) (ts : Terms) (s : Sort) → gives_truth op ≡ true → IsOf (operation op ts) s → s ≡ Sort.Bool
gives_bool Op.True ts s e h = when-same _ _ s h.is
gives_bool Op.False ts s e h = when-same _ _ s h.is
gives_bool Op.Not ts s e h = when-same _ _ s h.is
gives_bool Op.Implies ts s e h = when-same _ _ s h.is
gives_bool Op.And ts s e h = when-same _ _ s h.is
gives_bool Op.Or ts s e h = when-same _ _ s h.is
gives_bool Op.Xor ts s e h = when-same _ _ s h.is
gives_bool Op.Equal ts s e h = when-same _ _ s h.is
gives_bool _ ts s e h = absurd cc

-- the parts of an `ite`, and an `ite` of these parts
parts_listed : (c t u : Term) (s : Sort) (ss : List Sort) → AreOf (terms_of (c ∷ t ∷ u ∷ [])) ss → choice_sort ss ≡ Some s → IsOf c Sort.Bool × IsOf t s × IsOf u s
parts_listed c t u s [] h e = absurd h
parts_listed c t u s (x ∷ []) h e = absurd h.1
parts_listed c t u s (x ∷ y ∷ []) h e = absurd h.1.1
parts_listed c t u s (x ∷ y ∷ z ∷ w ∷ rest) h e = absurd h.1.1.1
parts_listed c t u s (x ∷ y ∷ z ∷ []) h e =
    let is = choice_sort-branches x y z s e in (
      subst (IsOf c) is.2 h.0,
      subst (IsOf t) (sym is.0) h.1.0,
      subst (IsOf u) (sym is.0) (subst (IsOf u) (sym is.1) h.1.1.0),
    )

abbrev choice_term : Term → Term → Term → Term
choice_term c t u = operation Op.Ite (term c (term t (term u no_terms)))

pub choice_parts : (c t u : Term) (s : Sort) → IsOf (choice_term c t u) s → IsOf c Sort.Bool × IsOf t s × IsOf u s
choice_parts c t u s h = parts_listed c t u s h.sorts h.arguments h.is

pub choice_of : (c t u : Term) (s : Sort) → IsOf c Sort.Bool → IsOf t s → IsOf u s → IsOf (choice_term c t u) s
choice_of c t u s h k l = record {
  sorts = Sort.Bool ∷ s ∷ s ∷ [];
  arguments = (h, (k, (l, tt)));
  is = rw ((sort_eq_decides s s).1 refl) refl;
}

pub of_truths : (terms : Letter → Term) (p : Pattern) (s : Sort) → is_of_truths p ≡ true → IsOf (fill terms p) s → s ≡ Sort.Bool
of_truths terms (letter l) s e h = absurd cc
of_truths terms (nullary op) s e h = gives_bool op no_terms s e h
of_truths terms (unary op p) s e h = gives_bool op (term (fill terms p) no_terms) s e h
of_truths terms (binary op p q) s e h =
    gives_bool op (term (fill terms p) (term (fill terms q) no_terms)) s e h
of_truths terms (ternary Op.Ite p q r) s e h =
    let parts = choice_parts (fill terms p) (fill terms q) (fill terms r) s h in
    elim (or_cases (is_of_truths q) (is_of_truths r) e) [ inl f ↦ of_truths terms q s f parts.1 | inr f ↦ of_truths terms r s f parts.2 ]
of_truths terms (ternary op p q r) s e h = absurd cc

-- whether a pattern is of Bool where its letters are
abbrev takes_one : Op → Bool
takes_one Op.Not = true
takes_one _ = false

abbrev takes_none : Op → Bool
takes_none Op.True = true
takes_none Op.False = true
takes_none _ = false

abbrev takes_two : Op → Bool
takes_two Op.Implies = true
takes_two Op.And = true
takes_two Op.Or = true
takes_two Op.Xor = true
takes_two Op.Equal = true
takes_two _ = false

abbrev pub is_boolean : Pattern → Bool
is_boolean (letter l) = true
is_boolean (nullary op) = takes_none op
is_boolean (unary op p) = takes_one op && is_boolean p
is_boolean (binary op p q) = takes_two op && (is_boolean p && is_boolean q)
is_boolean (ternary op p q r) = false

none_taken : (op : Op) → takes_none op ≡ true → IsOf (operation op no_terms) Sort.Bool
none_taken Op.True e = record { sorts = []; arguments = tt; is = refl }
none_taken Op.False e = record { sorts = []; arguments = tt; is = refl }
none_taken _ e = absurd cc

one_taken : (op : Op) (t : Term) → takes_one op ≡ true → IsOf t Sort.Bool → IsOf (operation op (term t no_terms)) Sort.Bool
one_taken Op.Not t e h = record { sorts = Sort.Bool ∷ []; arguments = (h, tt); is = refl }
one_taken _ t e h = absurd cc

two_taken : (op : Op) (t u : Term) → takes_two op ≡ true → IsOf t Sort.Bool → IsOf u Sort.Bool → IsOf (operation op (term t (term u no_terms))) Sort.Bool
two_taken Op.Implies t u e h k = record { sorts = Sort.Bool ∷ Sort.Bool ∷ []; arguments = (h, (k, tt)); is = refl }
two_taken Op.And t u e h k = record { sorts = Sort.Bool ∷ Sort.Bool ∷ []; arguments = (h, (k, tt)); is = refl }
two_taken Op.Or t u e h k = record { sorts = Sort.Bool ∷ Sort.Bool ∷ []; arguments = (h, (k, tt)); is = refl }
two_taken Op.Xor t u e h k = record { sorts = Sort.Bool ∷ Sort.Bool ∷ []; arguments = (h, (k, tt)); is = refl }
two_taken Op.Equal t u e h k = record { sorts = Sort.Bool ∷ Sort.Bool ∷ []; arguments = (h, (k, tt)); is = refl }
two_taken _ t u e h k = absurd cc

same_is : (l : Letter) → is_in l (letter l) ≡ true
same_is Letter.A = refl
same_is Letter.B = refl
same_is Letter.C = refl
same_is Letter.D = refl

boolean_is : (terms : Letter → Term) (p : Pattern) → is_boolean p ≡ true → ((l : Letter) → is_in l p ≡ true → IsOf (terms l) Sort.Bool) → IsOf (fill terms p) Sort.Bool
boolean_is terms (letter l) e each = each l (same_is l)
boolean_is terms (nullary op) e each = none_taken op e
boolean_is terms (unary op p) e each =
    one_taken op _ (and-left (takes_one op) (is_boolean p) e) (boolean_is terms p (and-right (takes_one op) (is_boolean p) e) each)
boolean_is terms (binary op p q) e each =
    let parts = and-right (takes_two op) (is_boolean p && is_boolean q) e in
    two_taken op _ _ (and-left (takes_two op) (is_boolean p && is_boolean q) e)
    (boolean_is terms p (and-left (is_boolean p) (is_boolean q) parts) (λ l f. each l (or_left (is_in l p) (is_in l q) f)))
    (boolean_is terms q (and-right (is_boolean p) (is_boolean q) parts) (λ l f. each l (or_right (is_in l p) (is_in l q) f)))
boolean_is terms (ternary op p q r) e each = absurd cc

-- whether two values are one truth value
abbrev bool_same : Bool → Bool → Bool
bool_same true x = x
bool_same false x = not x

abbrev pub same_truth : Value → Value → Bool
same_truth (truth x) (truth y) = bool_same x y
same_truth _ _ = false

same_is_equal : (v w : Value) → same_truth v w ≡ true → v ≡ w
same_is_equal (truth true) (truth true) e = refl
same_is_equal (truth true) (truth false) e = absurd cc
same_is_equal (truth false) (truth true) e = absurd cc
same_is_equal (truth false) (truth false) e = refl
same_is_equal (truth true) (whole y) e = absurd cc
same_is_equal (truth false) (whole y) e = absurd cc
same_is_equal (whole x) (truth y) e = absurd cc
same_is_equal (whole x) (whole y) e = absurd cc

-- whether a letter of a row is of Bool where the left side is and the guard lets pass
abbrev is_truth_guarded : Letter → Guard → Bool
is_truth_guarded l always = false
is_truth_guarded l (truths p q) = is_truth_in l p || is_truth_in l q
is_truth_guarded l (one_number p q) = false
is_truth_guarded l (two_numbers p q) = false
is_truth_guarded l (below p q) = false
is_truth_guarded l (at_most p q) = false

abbrev is_known_in : RewriteRow → Letter → Bool
is_known_in row l =
    not (is_in l row.left || is_in l row.right) || (is_truth_in l row.left || is_truth_guarded l row.guard)

abbrev pub all_known_in : RewriteRow → Bool
all_known_in row =
    is_known_in row Letter.A && (is_known_in row Letter.B && (is_known_in row Letter.C && is_known_in row Letter.D))

abbrev pub has_one_value : RewriteRow → Bool
has_one_value row =
    both (λ a. both (λ b. both (λ c. both (λ d. same_truth (pattern_value (table a b c d) row.left) (pattern_value (table a b c d) row.right)))))

abbrev pub is_kept : RewriteRow → Bool
is_kept row = is_of_truths row.left && (is_boolean row.right && (all_known_in row && has_one_value row))

-- a row keeps the value and the sort of what it rewrites
pub record Keeps (row : RewriteRow) (I : Interpretation) (r : Valuation) (terms : Letter → Term) (s : Sort) : Type 0 where
  pub value_is : value I r (fill terms row.left) ≡ value I r (fill terms row.right)
  pub sort_is : IsOf (fill terms row.right) s

abbrev pub IsKept : RewriteRow → Type 0
IsKept row =
    (I : Interpretation) (r : Valuation) (terms : Letter → Term) (s : Sort) → ValuationFits r → IsOf (fill terms row.left) s → PassesGuard terms row.guard → Keeps row I r terms s

both_at : (f : Bool → Bool) (b : Bool) → both f ≡ true → f b ≡ true
both_at f true e = and-left (f true) (f false) e
both_at f false e = and-right (f true) (f false) e

at_values : (f : Bool → Bool → Bool → Bool → Bool) (a b c d : Bool) → both (λ a. both (λ b. both (λ c. both (λ d. f a b c d)))) ≡ true → f a b c d ≡ true
at_values f a b c d e =
    both_at (λ d. f a b c d) d
    (both_at (λ c. both (λ d. f a b c d)) c
    (both_at (λ b. both (λ c. both (λ d. f a b c d))) b
    (both_at (λ a. both (λ b. both (λ c. both (λ d. f a b c d)))) a e)))

each_known : (row : RewriteRow) → all_known_in row ≡ true → (l : Letter) → is_known_in row l ≡ true
each_known row e Letter.A = and-left _ _ e
each_known row e Letter.B = and-left _ _ (and-right (is_known_in row Letter.A) _ e)
each_known row e Letter.C = and-left _ _ (and-right (is_known_in row Letter.B) _ (and-right (is_known_in row Letter.A) _ e))
each_known row e Letter.D = and-right (is_known_in row Letter.C) _ (and-right (is_known_in row Letter.B) _ (and-right (is_known_in row Letter.A) _ e))

guarded_truth : (terms : Letter → Term) (l : Letter) (g : Guard) → is_truth_guarded l g ≡ true → PassesGuard terms g → IsOf (terms l) Sort.Bool
guarded_truth terms l always e h = absurd cc
guarded_truth terms l (truths p q) e h =
    elim (or_cases (is_truth_in l p) (is_truth_in l q) e) [ inl f ↦ truth_letter terms l p f h.0 | inr f ↦ truth_letter terms l q f h.1 ]
guarded_truth terms l (one_number p q) e h = absurd cc
guarded_truth terms l (two_numbers p q) e h = absurd cc
guarded_truth terms l (below p q) e h = absurd cc
guarded_truth terms l (at_most p q) e h = absurd cc

used_truth : (terms : Letter → Term) (row : RewriteRow) (l : Letter) → is_known_in row l ≡ true → (is_in l row.left || is_in l row.right) ≡ true → IsOf (fill terms row.left) Sort.Bool → PassesGuard terms row.guard → IsOf (terms l) Sort.Bool
used_truth terms row l e used h passes =
    elim (or_cases (not (is_in l row.left || is_in l row.right)) _ e) [
      | inl f ↦ absurd (not_both _ f used)
      | inr f ↦ elim (or_cases (is_truth_in l row.left) (is_truth_guarded l row.guard) f) [
        | inl k ↦ truth_letter terms l row.left k h
        | inr k ↦ guarded_truth terms l row.guard k passes
      ]
    ]

module _ (I : Interpretation) (r : Valuation) (fits : ValuationFits r) (terms : Letter → Term) where
  abbrev letter_values : Letter → Value
  letter_values l = value I r (terms l)

  abbrev truths_of : Letter → Value
  truths_of =
      table (as_truth (letter_values Letter.A)) (as_truth (letter_values Letter.B)) (as_truth (letter_values Letter.C)) (as_truth (letter_values Letter.D))

  truth_of_bool : (l : Letter) → IsOf (terms l) Sort.Bool → letter_values l ≡ truth (as_truth (letter_values l))
  truth_of_bool l h = go (bool_value (letter_values l) (value_has_sort I r fits (terms l) Sort.Bool h))
    where
      go : ((b : Bool) × (letter_values l ≡ truth b)) → letter_values l ≡ truth (as_truth (letter_values l))
      go (b, e) = e ∙ sym (ap (λ v. truth (as_truth v)) e)

  tabled : (l : Letter) → IsOf (terms l) Sort.Bool → letter_values l ≡ truths_of l
  tabled Letter.A h = truth_of_bool Letter.A h
  tabled Letter.B h = truth_of_bool Letter.B h
  tabled Letter.C h = truth_of_bool Letter.C h
  tabled Letter.D h = truth_of_bool Letter.D h

  table_value : (p : Pattern) → ((l : Letter) → is_in l p ≡ true → IsOf (terms l) Sort.Bool) → value I r (fill terms p) ≡ pattern_value truths_of p
  table_value p each = fill_value I r terms p ∙ same_values letter_values truths_of p (λ l e. tabled l (each l e))

  pub bool_kept : (row : RewriteRow) → is_boolean row.right ≡ true → all_known_in row ≡ true → has_one_value row ≡ true → IsOf (fill terms row.left) Sort.Bool → PassesGuard terms row.guard → Keeps row I r terms Sort.Bool
  bool_kept row right known same h passes =
      let each = λ (l : Letter) (used : (is_in l row.left || is_in l row.right) ≡ true). used_truth terms row l (each_known row known l) used h passes in
      let one = same_is_equal _ _ (at_values (λ a b c d. same_truth (pattern_value (table a b c d) row.left) (pattern_value (table a b c d) row.right)) _ _ _ _ same) in
      record {
        value_is =
            table_value row.left (λ l e. each l (or_left (is_in l row.left) (is_in l row.right) e))
            ∙ one
            ∙ sym (table_value row.right (λ l e. each l (or_right (is_in l row.left) (is_in l row.right) e)));
        sort_is = boolean_is terms row.right right (λ l e. each l (or_right (is_in l row.left) (is_in l row.right) e));
      }

pub row_kept : (row : RewriteRow) → is_kept row ≡ true → IsKept row
row_kept row e I r terms s fits h passes =
    let bool = of_truths terms row.left s (and-left (is_of_truths row.left) _ e) h in
    let more = and-right (is_of_truths row.left) _ e in
    let last = and-right (is_boolean row.right) _ more in
    subst (λ u. Keeps row I r terms u) (sym bool) (bool_kept I r fits terms row (and-left (is_boolean row.right) _ more) (and-left (all_known_in row) _ last) (and-right (all_known_in row) _ last) (subst (IsOf (fill terms row.left)) bool h) passes)
