-- The instances of a schema keep truth where its truth table does.
use Rattle.std.proofs.Common.{◌≡◌, List, [], ◌∷◌, map, Bool, true, false, not, ◌&&◌, ◌||◌, ◌⊎◌, All, inl, inr, refl, sym, ap, ◌∙◌, subst, arith}
use Rattle.std.specs.List.{AllByRecursion, list_all, list_any}
use Rattle.std.proofs.lemmas.List.Elements.{All-head, All-tail, recursion_from_All}
use Rattle.std.proofs.lemmas.Bool.{or_cases, or_left, or_right}
use Rattle.term_model.specs.declared.symbols.Sort.{Sort}
use Rattle.term_model.specs.Terms.{Term}
use Rattle.term_model.specs.Values.{Value, truth, as_truth}
use Rattle.term_model.specs.Interpretations.{Interpretation}
use Rattle.term_model.specs.Meaning.{Valuation, ValuationFits, value}
use Rattle.term_model.specs.Sorts.{IsOf}
use Rattle.term_model.specs.Unsatisfiable.{MakesTrue}
use Rattle.term_model.proofs.Basics.{and-left, and-right, any_here, any_later, any_cases, not_both}
use Rattle.term_model.proofs.Meanings.{is_true, true_is}
use Rattle.term_model.proofs.Sorting.{value_has_sort, bool_value}
use Rattle.rule_model.specs.declared.letter.Letter.{Letter}
use Rattle.rule_model.specs.Clauses.{MakesClauseTrue}
use Rattle.rule_model.specs.Conditions.{IsClauseOfTruths}
use Rattle.rule_model.specs.Schemas.{Pattern, fill, Schema, IsInstance}
use Rattle.rule_model.proofs.TruthTables.{fill_value, is_in, is_truth_in, same_values, truth_letter, table, holds, keeps_truth_at, both, keeps_truth, is_known, are_letters_known, is_sound}

both_at : (f : Bool → Bool) (b : Bool) → both f ≡ true → f b ≡ true
both_at f true e = and-left (f true) (f false) e
both_at f false e = and-right (f true) (f false) e

at_table : (schema : Schema) (a b c d : Bool) → keeps_truth schema ≡ true → keeps_truth_at schema (table a b c d) ≡ true
at_table schema a b c d e =
    both_at (λ d. keeps_truth_at schema (table a b c d)) d
    (both_at (λ c. both (λ d. keeps_truth_at schema (table a b c d))) c
    (both_at (λ b. both (λ c. both (λ d. keeps_truth_at schema (table a b c d)))) b
    (both_at (λ a. both (λ b. both (λ c. both (λ d. keeps_truth_at schema (table a b c d))))) a e)))

-- what stands at a letter
abbrev pick : Bool → Bool → Bool → Bool → Letter → Bool
pick a b c d Letter.A = a
pick a b c d Letter.B = b
pick a b c d Letter.C = c
pick a b c d Letter.D = d

each_known : (schema : Schema) → are_letters_known schema ≡ true → (l : Letter) → is_known schema l ≡ true
each_known schema e l =
    at_letter l (each (is_known schema Letter.A) (is_known schema Letter.B) (is_known schema Letter.C) (is_known schema Letter.D) e l)
  where
    at_letter : (l : Letter) → pick (is_known schema Letter.A) (is_known schema Letter.B) (is_known schema Letter.C) (is_known schema Letter.D) l ≡ true → is_known schema l ≡ true
    at_letter Letter.A f = f
    at_letter Letter.B f = f
    at_letter Letter.C f = f
    at_letter Letter.D f = f

    each : (a b c d : Bool) → (a && (b && (c && d))) ≡ true → (l : Letter) → pick a b c d l ≡ true
    each a b c d e Letter.A = and-left a (b && (c && d)) e
    each a b c d e Letter.B = and-left b (c && d) (and-right a (b && (c && d)) e)
    each a b c d e Letter.C = and-left c d (and-right b (c && d) (and-right a (b && (c && d)) e))
    each a b c d e Letter.D = and-right c d (and-right b (c && d) (and-right a (b && (c && d)) e))

implied : (a b : Bool) → (not a || b) ≡ true → a ≡ true → b ≡ true
implied true b e f = e
implied false b e f = absurd cc

module _ (I : Interpretation) (r : Valuation) (fits : ValuationFits r) (terms : Letter → Term) where
  abbrev letter_value : Letter → Value
  letter_value l = value I r (terms l)

  abbrev letter_truths : Letter → Value
  letter_truths =
      table (as_truth (letter_value Letter.A)) (as_truth (letter_value Letter.B)) (as_truth (letter_value Letter.C)) (as_truth (letter_value Letter.D))

  abbrev IsTruth : Term → Type 0
  IsTruth t = IsOf t Sort.Bool

  abbrev AreTruths : List Pattern → Type 0
  AreTruths ps = AllByRecursion (λ p. IsTruth (fill terms p)) ps

  -- a letter of Bool has a truth value
  truth_value : (l : Letter) → IsTruth (terms l) → letter_value l ≡ truth (as_truth (letter_value l))
  truth_value l h = go (bool_value (letter_value l) (value_has_sort I r fits (terms l) Sort.Bool h))
    where
      go : ((b : Bool) × (letter_value l ≡ truth b)) → letter_value l ≡ truth (as_truth (letter_value l))
      go (b, e) = e ∙ sym (ap (λ v. truth (as_truth v)) e)

  is_table : (l : Letter) → IsTruth (terms l) → letter_value l ≡ letter_truths l
  is_table Letter.A h = truth_value Letter.A h
  is_table Letter.B h = truth_value Letter.B h
  is_table Letter.C h = truth_value Letter.C h
  is_table Letter.D h = truth_value Letter.D h

  letter_among : (l : Letter) (ps : List Pattern) → AreTruths ps → list_any (is_truth_in l) ps ≡ true → IsTruth (terms l)
  letter_among l [] h e = absurd cc
  letter_among l (p ∷ ps) h e =
      elim (or_cases (is_truth_in l p) (list_any (is_truth_in l) ps) e) [
        | inl f ↦ truth_letter terms l p f h.0
        | inr f ↦ letter_among l ps h.1 f
      ]

  -- the letters of these patterns have their truth values
  abbrev Agrees : List Pattern → Type 0
  Agrees ps = (l : Letter) → list_any (is_in l) ps ≡ true → letter_value l ≡ letter_truths l

  holds_same : (p : Pattern) (ps : List Pattern) → Agrees (p ∷ ps) → as_truth (value I r (fill terms p)) ≡ holds letter_truths p
  holds_same p ps agrees =
      ap as_truth (fill_value I r terms p ∙ same_values letter_value letter_truths p (λ l e. agrees l (or_left (is_in l p) (list_any (is_in l) ps) e)))

  agrees_later : (p : Pattern) (ps : List Pattern) → Agrees (p ∷ ps) → Agrees ps
  agrees_later p ps agrees l e = agrees l (or_right (is_in l p) (list_any (is_in l) ps) e)

  unit_true : (t : Term) → MakesClauseTrue I r (t ∷ []) → MakesTrue I r t
  unit_true t some = elim (any_cases (MakesTrue I r) t [] some) [ inl here ↦ here | inr later ↦ absurd (omega (arith, later.2)) ]

  premises_hold : (ps : List Pattern) → Agrees ps → All (MakesClauseTrue I r) (map (λ p. fill terms p ∷ []) ps) → list_all (holds letter_truths) ps ≡ true
  premises_hold [] agrees all = refl
  premises_hold (p ∷ ps) agrees all =
      let rest = map (λ p. fill terms p ∷ []) ps in
      let here = true_is (value I r (fill terms p)) (unit_true (fill terms p) (All-head (MakesClauseTrue I r) (fill terms p ∷ []) rest all)) in
      rw (sym (holds_same p ps agrees) ∙ here) (premises_hold ps (agrees_later p ps agrees) (All-tail (MakesClauseTrue I r) (fill terms p ∷ []) rest all))

  clause_holds : (ps : List Pattern) → Agrees ps → list_any (holds letter_truths) ps ≡ true → MakesClauseTrue I r (map (fill terms) ps)
  clause_holds [] agrees e = absurd cc
  clause_holds (p ∷ ps) agrees e =
      elim (or_cases (holds letter_truths p) (list_any (holds letter_truths) ps) e) [
        | inl f ↦ any_here (MakesTrue I r) (fill terms p) (map (fill terms) ps) (is_true (value I r (fill terms p)) (holds_same p ps agrees ∙ f))
        | inr f ↦ any_later (MakesTrue I r) (fill terms p) (map (fill terms) ps) (clause_holds ps (agrees_later p ps agrees) f)
      ]

  literals_are_truths : (ps : List Pattern) → AllByRecursion IsTruth (map (fill terms) ps) → AreTruths ps
  literals_are_truths [] h = tt
  literals_are_truths (p ∷ ps) h = (h.0, literals_are_truths ps h.1)

  units_are_truths : (ps : List Pattern) → AllByRecursion IsClauseOfTruths (map (λ p. fill terms p ∷ []) ps) → AreTruths ps
  units_are_truths [] h = tt
  units_are_truths (p ∷ ps) h = (All-head IsTruth (fill terms p) [] h.0, units_are_truths ps h.1)

  used_is_truth : (schema : Schema) (l : Letter) → AreTruths schema.premises → AreTruths schema.clause → is_known schema l ≡ true → (list_any (is_in l) schema.premises ≡ true) ⊎ (list_any (is_in l) schema.clause ≡ true) → IsTruth (terms l)
  used_is_truth schema l h k e used =
      elim (or_cases _ _ e) [
        | inl f ↦ elim used [
          | inl u ↦ absurd (not_both (list_any (is_in l) schema.premises) (and-left _ _ f) u)
          | inr u ↦ absurd (not_both (list_any (is_in l) schema.clause) (and-right (not (list_any (is_in l) schema.premises)) _ f) u)
        ]
        | inr f ↦ elim (or_cases _ _ f) [ inl g ↦ letter_among l schema.premises h g | inr g ↦ letter_among l schema.clause k g ]
      ]

  pub filled_keeps_truth : (schema : Schema) → is_sound schema ≡ true → All IsClauseOfTruths (map (λ p. fill terms p ∷ []) schema.premises) → IsClauseOfTruths (map (fill terms) schema.clause) → All (MakesClauseTrue I r) (map (λ p. fill terms p ∷ []) schema.premises) → MakesClauseTrue I r (map (fill terms) schema.clause)
  filled_keeps_truth schema sound units literals all =
      let h = units_are_truths schema.premises (recursion_from_All IsClauseOfTruths (map (λ p. fill terms p ∷ []) schema.premises) units) in
      let k = literals_are_truths schema.clause (recursion_from_All IsTruth (map (fill terms) schema.clause) literals) in
      let known = each_known schema (and-right (keeps_truth schema) (are_letters_known schema) sound) in
      let kept = at_table schema _ _ _ _ (and-left (keeps_truth schema) (are_letters_known schema) sound) in
      clause_holds schema.clause (λ l e. is_table l (used_is_truth schema l h k (known l) (inr e)))
      (implied (list_all (holds letter_truths) schema.premises) (list_any (holds letter_truths) schema.clause) kept
      (premises_hold schema.premises (λ l e. is_table l (used_is_truth schema l h k (known l) (inl e))) all))

-- an instance of a sound schema keeps truth
pub instance_keeps_truth : (schema : Schema) (premises : List (List Term)) (clause : List Term) (I : Interpretation) (r : Valuation) → is_sound schema ≡ true → IsInstance schema premises clause → ValuationFits r → All IsClauseOfTruths premises → IsClauseOfTruths clause → All (MakesClauseTrue I r) premises → MakesClauseTrue I r clause
instance_keeps_truth schema premises clause I r sound i fits units literals all =
    subst (MakesClauseTrue I r) (sym i.literals)
    (filled_keeps_truth I r fits i.terms schema sound (subst (All IsClauseOfTruths) i.units units) (subst IsClauseOfTruths i.literals literals)
    (subst (All (MakesClauseTrue I r)) i.units all))
