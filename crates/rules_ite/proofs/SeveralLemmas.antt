-- What `distinct` of some terms stands for, by the references of the terms.
use Rattle.std.proofs.Common.{◌≡◌, ◌≢◌, ◌↔◌, ◌<◌, ◌≤◌, ℕ, List, [], ◌∷◌, length, get_or, Bool, IsTrue, All, refl, ◌∙◌, ap, subst, arith}
use Rattle.std.proofs.lemmas.List.Elements.{All-cons, All-head, All-tail}
use Rattle.sort_check.specs.WellSorted.{IsWellSortedTerm}
use Rattle.sym_table.specs.Table.{Table}
use Rattle.term_model.specs.declared.symbols.Op.{Op}
use Rattle.term_model.specs.declared.symbols.Sort.{Sort}
use Rattle.term_model.specs.Sorts.{IsOf, IsWellSorted}
use Rattle.term_model.specs.Terms.{Term, operation, no_terms, terms_of}
use Rattle.term_parts.specs.Parts.{IsOver}
use Rattle.term_pool.specs.Views.{TermsView, RefersTo, ReferToAll}
use Rattle.rule_model.specs.Ite.{IsInequality}
use Rattle.schema_match.proofs.Counts.{none}
use Rattle.schema_match.proofs.OverLemmas.{over_term, is_over}
use Rattle.schema_match.proofs.ReferLemmas.{refer_length}
use Rattle.rules_ite.specs.Distinct.{AreOfOneSort, IsConjunction, IsOfDistinct}
use Rattle.rules_ite.proofs.EquationLemmas.{distinct_of_one_sort}
use Rattle.rules_ite.proofs.StandingLemmas.{two_stand_for, truths_stand_for, others_stand_for}

-- the constant `false`
false_term : (t : Term) → IsOver Op.False 0 t → t ≡ operation Op.False no_terms
false_term t h = let here = over_term Op.False 0 t h in here.1 ∙ ap (operation Op.False) (none here.0 here.2)

module _ (s : Table) (v : TermsView) where
  pub few_terms : (list : List ℕ) (us : List Term) → ReferToAll s v list us → length list < 2 → length us < 2
  few_terms list us refer few = let count = refer_length s v list us refer in omega (arith, few, count)

  -- two terms
  pub two_are : (list : List ℕ) (us : List Term) (t : Term) (first second : ℕ) (told : Bool) → ReferToAll s v list us → length list ≡ 2 → first ≡ get_or list 0 first → second ≡ get_or list 1 second → ((x y : Term) → RefersTo s v first x → RefersTo s v second y → IsTrue told ↔ IsInequality x y t) → IsTrue told ↔ IsOfDistinct us t
  two_are [] us t first second told refer count at_first at_second test = absurd cc
  two_are (p ∷ []) us t first second told refer count at_first at_second test = absurd cc
  two_are (p ∷ q ∷ []) [] t first second told refer count at_first at_second test = absurd refer
  two_are (p ∷ q ∷ []) (x ∷ []) t first second told refer count at_first at_second test = absurd refer.1
  two_are (p ∷ q ∷ []) (x ∷ y ∷ []) t first second told refer count at_first at_second test =
      two_stand_for x y t told (test x y (rw at_first refer.0) (rw at_second refer.1.0))
  two_are (p ∷ q ∷ []) (x ∷ y ∷ z ∷ us) t first second told refer count at_first at_second test = absurd refer.1.1
  two_are (p ∷ q ∷ r ∷ list) us t first second told refer count at_first at_second test = absurd cc

  -- three or more: the sort of the first one tells that of all
  module _ (sort : Sort) (first : ℕ) (first_sort : (u : Term) → RefersTo s v first u → IsOf u sort) where
    pub truths_are : (list : List ℕ) (us : List Term) (t : Term) (told : Bool) → ReferToAll s v list us → 3 ≤ length list → first ≡ get_or list 0 first → AreOfOneSort us → sort ≡ Sort.Bool → IsTrue told ↔ IsOver Op.False 0 t → IsTrue told ↔ IsOfDistinct us t
    truths_are [] us t told refer many at sorted truth test = absurd (omega (arith, many))
    truths_are (r ∷ list) [] t told refer many at sorted truth test = absurd refer
    truths_are (r ∷ list) (x ∷ us) t told refer many at sorted truth test =
        truths_stand_for x us t (let count = refer_length s v (r ∷ list) (x ∷ us) refer in omega (arith, many, count)) sorted sort (first_sort x (rw at refer.0)) truth told
        (λ e. false_term t (test.0 e), λ is. test.1 (is_over Op.False 0 t no_terms is refl))

    pub others_are : (list : List ℕ) (us : List Term) (t : Term) (told : Bool) → ReferToAll s v list us → 3 ≤ length list → first ≡ get_or list 0 first → AreOfOneSort us → sort ≢ Sort.Bool → IsTrue told ↔ IsConjunction us t → IsTrue told ↔ IsOfDistinct us t
    others_are [] us t told refer many at sorted other test = absurd (omega (arith, many))
    others_are (r ∷ list) [] t told refer many at sorted other test = absurd refer
    others_are (r ∷ list) (x ∷ us) t told refer many at sorted other test =
        others_stand_for x us t (let count = refer_length s v (r ∷ list) (x ∷ us) refer in omega (arith, many, count)) sorted sort (first_sort x (rw at refer.0)) other told test

  -- the arguments of a well-sorted `distinct`
  pub arguments_are_sorted : (rs : List ℕ) (ts : List Term) → ReferToAll s v rs ts → AreOfOneSort ts → All (IsWellSortedTerm s v) rs
  arguments_are_sorted rs ts refer sorted = go rs ts refer sorted.each
    where
      go : (rs : List ℕ) (ts : List Term) → ReferToAll s v rs ts → All (λ t. IsOf t sorted.sort) ts → All (IsWellSortedTerm s v) rs
      go [] ts refer each = λ k d below. absurd (omega (arith, below))
      go (r ∷ rs) [] refer each = absurd refer
      go (r ∷ rs) (t ∷ ts) refer each =
          All-cons (IsWellSortedTerm s v) r rs
          (record { means = t; refers = refer.0; sorted = record { sort = sorted.sort; of = All-head (λ u. IsOf u sorted.sort) t ts each } })
          (go rs ts refer.1 (All-tail (λ u. IsOf u sorted.sort) t ts each))

pub distinct_is_of_one_sort : (t : Term) (ts : List Term) → IsWellSorted t → t ≡ operation Op.Distinct (terms_of ts) → AreOfOneSort ts
distinct_is_of_one_sort t ts sorted is = distinct_of_one_sort ts sorted.sort (subst (λ u. IsOf u sorted.sort) is sorted.of)
