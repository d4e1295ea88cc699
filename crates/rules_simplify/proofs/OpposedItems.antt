-- The items of a list, noted one by one.
use Rattle.std.proofs.Common.{◌≡◌, ◌↔◌, Contains, ◌<◌, ◌≤◌, ◌+◌, ℕ, List, length, get_or, take, Bool, true, false, IsTrue, refl, sym, subst}
use Rattle.sym_table.specs.Table.{Table}
use Rattle.term_model.specs.Terms.{Term}
use Rattle.term_pool.specs.Nots.{IsStripped}
use Rattle.term_pool.specs.Views.{TermsView, RefersTo, ReferToAll}
use Rattle.term_pool.proofs.References.{AreOne}
use Rattle.rule_model.specs.Simplify.{AreOpposed}
use Rattle.rules_simplify.specs.Joins.{IsMetOtherwise}
use Rattle.schema_match.proofs.ReferLemmas.{contains_terms}
use Rattle.term_parts.specs.Parts.{StandsUnder}
use Rattle.rules_simplify.proofs.ItemLemmas.{item, item_refers, item_there, one_more, all_taken, contains_taken}
use Rattle.rules_simplify.proofs.OpposedLemmas.{IsNoted, noted_found, noted_more, none_opposed, opposed_wider}

module _ (s : Table) (v : TermsView) (rs : List ℕ) (ts : List Term) (refer : ReferToAll s v rs ts) (i : ℕ) (even odd : List ℕ) (noted : IsNoted s v (take i ts) even odd) where
  module _ (one : AreOne s v) (r bare : ℕ) (b told : Bool) (new_even new_odd : List ℕ) (below : i < length rs) (is : r ≡ get_or rs i r) (stripped : (t : Term) → RefersTo s v r t → IsStripped s v t bare b) (met : IsMetOtherwise even odd new_even new_odd bare b told) where
    here : IsStripped s v (item s v rs ts refer i) bare b
    here = stripped (item s v rs ts refer i) (item_refers s v rs ts refer i r below is)

    pub found : told ≡ true → IsTrue true ↔ AreOpposed ts
    found holds = (
      λ e.
          opposed_wider (take (i + 1) ts) ts (λ t there. contains_taken (i + 1) ts t there)
          (rw (one_more s v rs ts refer i r below is)
          (noted_found s v one (take i ts) (item s v rs ts refer i) here.inner bare here.refers b told even odd new_even new_odd here.strips noted met holds)),
      λ h. refl,
    )

    pub not_found : told ≡ false → IsNoted s v (take (i + 1) ts) new_even new_odd
    not_found fails =
        rw (one_more s v rs ts refer i r below is)
        (noted_more s v one (take i ts) (item s v rs ts refer i) here.inner bare here.refers b told even odd new_even new_odd here.strips noted met fails)

  pub nowhere : length rs ≤ i → IsTrue false ↔ AreOpposed ts
  nowhere past = (
    λ e. absurd cc,
    λ h. absurd (none_opposed s v (take i ts) even odd noted (subst AreOpposed (sym (all_taken s v rs ts refer i past)) h)),
  )

-- an item of which the negation is one too
pub negation_there : (s : Table) (v : TermsView) (rs : List ℕ) (ts : List Term) → ReferToAll s v rs ts → AreOne s v → (i r inner : ℕ) → i < length rs → r ≡ get_or rs i r → ((t : Term) → RefersTo s v r t → StandsUnder s v inner t) → Contains rs inner → AreOpposed ts
negation_there s v rs ts refer one i r inner below is under there =
    let h = under (item s v rs ts refer i) (item_refers s v rs ts refer i r below is) in
    record {
      same = h.inner;
      m = 0;
      n = 0;
      even = contains_terms s v one rs ts inner h.inner refer h.refers there;
      odd = subst (Contains ts) h.is (item_there s v rs ts refer i r below is);
    }
