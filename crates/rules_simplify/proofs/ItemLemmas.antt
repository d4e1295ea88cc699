-- The terms of a list up to an item, by the references of the list.
use Rattle.std.proofs.Common.{◌≡◌, ◌<◌, ◌≤◌, ◌+◌, ℕ, zero, suc, List, [], ◌∷◌, ◌++◌, length, get_or, take, Contains, inl, inr, sym, subst, arith}
use Rattle.std.proofs.lemmas.List.{take_all, take_more}
use Rattle.std.proofs.lemmas.List.Elements.{Contains-get_or}
use Rattle.sym_table.specs.Table.{Table}
use Rattle.term_model.specs.Terms.{Term, numeral}
use Rattle.term_model.proofs.Lists.{contains_none, contains_cases, contains_head, contains_later}
use Rattle.term_pool.specs.Views.{TermsView, RefersTo, ReferToAll}
use Rattle.schema_match.proofs.ReferLemmas.{refer_length, refer_at}

pub contains_taken : (i : ℕ) (ts : List Term) (t : Term) → Contains (take i ts) t → Contains ts t
contains_taken zero ts t h = absurd (contains_none t h)
contains_taken (suc i) [] t h = h
contains_taken (suc i) (u ∷ ts) t h =
    elim (contains_cases u t (take i ts) h) [
      | inl e ↦ subst (Contains (u ∷ ts)) e (contains_head u ts)
      | inr later ↦ contains_later u t ts (contains_taken i ts t later)
    ]

module _ (s : Table) (v : TermsView) (rs : List ℕ) (ts : List Term) (refer : ReferToAll s v rs ts) where
  -- the term at a place
  abbrev pub item : ℕ → Term
  item i = get_or ts i (numeral 0)

  module _ (i r : ℕ) (below : i < length rs) (is : r ≡ get_or rs i r) where
    within : i < length ts
    within = let count = refer_length s v rs ts refer in omega (arith, below, count)

    pub item_refers : RefersTo s v r (item i)
    item_refers = subst (λ q. RefersTo s v q (item i)) (sym is) (refer_at s v rs ts refer i r (numeral 0) below)

    pub one_more : take (i + 1) ts ≡ take i ts ++ item i ∷ []
    one_more = take_more ts i (numeral 0) within

    pub item_there : Contains ts (item i)
    item_there = Contains-get_or ts i (numeral 0) within

  pub all_taken : (i : ℕ) → length rs ≤ i → take i ts ≡ ts
  all_taken i past = take_all i ts (let count = refer_length s v rs ts refer in omega (arith, past, count))
