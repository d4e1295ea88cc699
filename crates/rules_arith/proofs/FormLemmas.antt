-- Steps that state an equality of numbers.
use Rattle.std.proofs.Common.{◌≡◌, ◌≢◌, ◌<◌, ℕ, ◌+◌, ◌^◌, List, [], ◌∷◌, All, refl, sym, ap, subst, ◌∙◌, arith}
use Rattle.std.proofs.lemmas.List.Elements.{All-cons, All-head, All-tail}
use Rattle.linear_forms.specs.declared.forms.OneForm.{OneForm}
use Rattle.linear_forms.specs.Forms.{TellsOneForm}
use Rattle.term_parts.specs.declared.answers.Answer.{Answer}
use Rattle.sort_check.specs.WellSorted.{IsWellSortedTerm}
use Rattle.sym_table.specs.Table.{Table}
use Rattle.term_model.specs.declared.symbols.Op.{Op}
use Rattle.term_model.specs.declared.symbols.Sort.{Sort}
use Rattle.term_model.specs.Flips.{equality}
use Rattle.term_model.specs.Sorts.{IsOf, IsWellSorted}
use Rattle.term_model.specs.Terms.{Term}
use Rattle.term_pool.specs.Views.{TermsView, ReferToAll, IsTerm}
use Rattle.rule_model.specs.Arith.{EquatesNumbers, MeetsFormSimplification, IsWideFormSimplification}
use Rattle.rule_model.specs.LinearForms.{HaveOneForm}
use Rattle.rule_model.specs.Weights.{weight}
use Rattle.rule_model.proofs.ArgumentLists.{same_sides}
use Rattle.schema_match.specs.Equations.{StatesEquality}
use Rattle.linear_lines.proofs.ComparisonLemmas.{both_sorted}
use Rattle.term_parts.specs.Judging.{Tells}
use Rattle.rules_arith.specs.Steps.{form_answer}

-- well-sorted literals are terms
module _ (s : Table) (v : TermsView) where
  pub sorted_are_terms : (rs : List ℕ) → All (IsWellSortedTerm s v) rs → All (IsTerm s v) rs
  sorted_are_terms [] all = λ k d below. absurd (omega (arith, below))
  sorted_are_terms (r ∷ rs) all =
      let first = All-head (IsWellSortedTerm s v) r rs all in
      All-cons (IsTerm s v) r rs (record { means = first.means; refers = first.refers }) (sorted_are_terms rs (All-tail (IsWellSortedTerm s v) r rs all))

  terms_there : (rs : List ℕ) → All (IsWellSortedTerm s v) rs → (ts : List Term) × ReferToAll s v rs ts × All IsWellSorted ts
  terms_there [] all = ([], tt, λ k d below. absurd (omega (arith, below)))
  terms_there (r ∷ rs) all =
      let first = All-head (IsWellSortedTerm s v) r rs all in
      let others = terms_there rs (All-tail (IsWellSortedTerm s v) r rs all) in
      (first.means ∷ others.0, (first.refers, others.1), All-cons IsWellSorted first.means others.0 first.sorted others.2)

  -- the sides of the equality that well-sorted literals state
  pub sides_sorted : (p : ℕ × ℕ) (clause : List ℕ) → All (IsWellSortedTerm s v) clause → ((ts : List Term) → ReferToAll s v clause ts → StatesEquality s v p [] ts) → IsWellSortedTerm s v p.0 × IsWellSortedTerm s v p.1
  sides_sorted p clause all states =
      let there = terms_there clause all in
      let is = states there.0 there.1 in
      let whole : IsWellSorted (equality is.left is.right) = All-head IsWellSorted (equality is.left is.right) [] (subst (All IsWellSorted) is.literal there.2) in
      let both = both_sorted Op.Equal is.left is.right whole in
      (record { means = is.left; refers = is.left_refers; sorted = both.0 }, record { means = is.right; refers = is.right_refers; sorted = both.1 })

-- no equality of numbers
pub states_none : (ts : List Term) → ((u w : Term) → ts ≢ equality u w ∷ []) → Tells Answer.NotMet (IsWideFormSimplification [] ts) (MeetsFormSimplification [] ts)
states_none ts other = (λ h. other h.sides.left h.sides.right h.sides.literal, λ h. other h.sides.left h.sides.right h.sides.literal)

module _ (s : Table) (v : TermsView) (p : ℕ × ℕ) (ts : List Term) (is : StatesEquality s v p [] ts) where
  sides_are : (e : EquatesNumbers [] ts) → (e.left ≡ is.left) × (e.right ≡ is.right)
  sides_are e = same_sides e.left e.right is.left is.right (sym e.literal ∙ is.literal)

  pub left_is_none : (IsOf is.left Sort.Int → ⊥) → Tells Answer.NotMet (IsWideFormSimplification [] ts) (MeetsFormSimplification [] ts)
  left_is_none other = (λ h. go h.sides, λ h. go h.sides)
    where
      go : EquatesNumbers [] ts → ⊥
      go e = other (subst (λ t. IsOf t Sort.Int) (sides_are e).0 e.left_sort)

  pub right_is_none : (IsOf is.right Sort.Int → ⊥) → Tells Answer.NotMet (IsWideFormSimplification [] ts) (MeetsFormSimplification [] ts)
  right_is_none other = (λ h. go h.sides, λ h. go h.sides)
    where
      go : EquatesNumbers [] ts → ⊥
      go e = other (subst (λ t. IsOf t Sort.Int) (sides_are e).1 e.right_sort)

  module _ (left_sort : IsOf is.left Sort.Int) (right_sort : IsOf is.right Sort.Int) where
    narrow : weight is.left + weight is.right < 2 ^ 127 → IsWideFormSimplification [] ts → ⊥
    narrow less h =
        let same = sides_are h.sides in
        let wide = h.wide in
        omega (arith, less, wide, ap weight same.0, ap weight same.1)

    one_form_of : (e : EquatesNumbers [] ts) → HaveOneForm e.left e.right → HaveOneForm is.left is.right
    one_form_of e h = subst (λ t. HaveOneForm t is.right) (sides_are e).0 (subst (HaveOneForm e.left) (sides_are e).1 h)

    pub form_tells : (f : OneForm) → TellsOneForm is.left is.right f → Tells (form_answer f) (IsWideFormSimplification [] ts) (MeetsFormSimplification [] ts)
    form_tells OneForm.Yes h = (narrow h.0, record { sides = record { left = is.left; right = is.right; none = refl; literal = is.literal; left_sort = left_sort; right_sort = right_sort }; one_form = h.1 })
    form_tells OneForm.No h = (narrow h.0, λ met. h.1 (one_form_of met.sides met.one_form))
    form_tells OneForm.TooWide h = record { sides = record { left = is.left; right = is.right; none = refl; literal = is.literal; left_sort = left_sort; right_sort = right_sort }; wide = h }
