-- A way down through terms: no reference comes twice, so it ends.
use Rattle.std.proofs.Common.{◌≡◌, ℕ, ◌<◌, ◌≤◌, ◌+◌, ◌^◌, ◌↔◌, List, [], ◌∷◌, length, Bool, true, false, eqb, refl, ap, arith}
use Rattle.std.specs.List.{IsDistinct, AllByRecursion, list_any}
use Rattle.std.proofs.lemmas.Map.Steps.{length-le_from_distinct_below}
use Rattle.std.proofs.lemmas.Bool.{eqb-true}
use Rattle.sym_table.specs.Table.{Table, IsTable}
use Rattle.term_model.specs.declared.symbols.Sort.{Sort}
use Rattle.term_model.specs.Terms.{Term}
use Rattle.term_model.specs.Sorts.{IsOf}
use Rattle.term_model.specs.Heights.{height}
use Rattle.term_pool.specs.Views.{TermsView, RefersTo}
use Rattle.sort_check.specs.Descent.{IsLower}
use Rattle.sort_check.specs.WellSorted.{IsWellSortedTerm}

-- a reference of a term that is higher than n
pub record IsAbove (s : Table) (v : TermsView) (n q : ℕ) : Type 0 where
  pub term : Term
  pub refers : RefersTo s v q term
  pub above : n < height term
  pub number : q < 2 ^ 31

-- the way from r to `at`: so many references, none of them twice, of terms higher than that of `at`, which is of the
-- sort of that of r
pub record IsWay (s : Table) (v : TermsView) (r at passed : ℕ) : Type 0 where
  pub whole : Term
  pub whole_refers : RefersTo s v r whole
  pub sort : Sort
  pub whole_of : IsOf whole sort
  pub here : Term
  pub here_refers : RefersTo s v at here
  pub here_of : IsOf here sort
  pub way : List ℕ
  pub counted : length way ≡ passed
  pub distinct : IsDistinct eqb way
  pub above : AllByRecursion (IsAbove s v (height here)) way

pub way_start : (s : Table) (v : TermsView) (r : ℕ) → IsWellSortedTerm s v r → IsWay s v r r 0
unfolding IsDistinct
way_start s v r w = record {
  whole = w.means;
  whole_refers = w.refers;
  sort = w.sorted.sort;
  whole_of = w.sorted.of;
  here = w.means;
  here_refers = w.refers;
  here_of = w.sorted.of;
  way = [];
  counted = refl;
  distinct = tt;
  above = tt;
}

pub way_here : (s : Table) (v : TermsView) (r at passed : ℕ) → IsWay s v r at passed → IsWellSortedTerm s v at
way_here s v r at passed w = record { means = w.here; refers = w.here_refers; sorted = record { sort = w.sort; of = w.here_of } }

below_any : (s : Table) (v : TermsView) (n : ℕ) (xs : List ℕ) → AllByRecursion (IsAbove s v n) xs → (q : ℕ) → list_any (eqb q) xs ≡ true → q < 2 ^ 31
below_any s v n [] h q e = absurd (cc)
below_any s v n (x ∷ xs) h q e = go (eqb q x) refl (below_any s v n xs h.1 q)
  where
    go : (b : Bool) → eqb q x ≡ b → (list_any (eqb q) xs ≡ true → q < 2 ^ 31) → q < 2 ^ 31
    go true d rest = let less = h.0.number in let same : q ≡ x = eqb-true q x d in omega arith
    go false d rest = rest (rw d at e)

pub way_short : (s : Table) (v : TermsView) (r at passed : ℕ) → IsWay s v r at passed → passed ≤ 2 ^ 31
way_short s v r at passed w =
    let n : ℕ = 2 ^ 31 in
    let le = length-le_from_distinct_below w.way n w.distinct (below_any s v (height w.here) w.way w.above) in
    let e = w.counted in
    omega arith

module _ (s : Table) (v : TermsView) (table : IsTable s) (law : (s : Table) → IsTable s → (p q : ℕ) (t u : Term) → RefersTo s v p t → RefersTo s v q u → (p ≡ q) ↔ (t ≡ u)) where
  apart : (at : ℕ) (t : Term) → RefersTo s v at t → (xs : List ℕ) → AllByRecursion (IsAbove s v (height t)) xs → AllByRecursion (λ y. eqb at y ≡ false) xs
  apart at t h [] all = tt
  apart at t h (x ∷ xs) all = (go (eqb at x) refl, apart at t h xs all.1)
    where
      differ : at ≡ x → ⊥
      differ e =
          let same : t ≡ all.0.term = (law s table at x t all.0.term h all.0.refers).0 e in
          let a = all.0.above in
          omega (arith, ap height same)

      go : (b : Bool) → eqb at x ≡ b → eqb at x ≡ false
      go false e = e
      go true e = absurd (differ (eqb-true at x e))

  lowered : (m n : ℕ) (xs : List ℕ) → m ≤ n → AllByRecursion (IsAbove s v n) xs → AllByRecursion (IsAbove s v m) xs
  lowered m n [] le h = tt
  lowered m n (x ∷ xs) le h =
      (record { term = h.0.term; refers = h.0.refers; above = let a = h.0.above in omega arith; number = h.0.number }, lowered m n xs le h.1)

  pub way_down : (r at next passed : ℕ) → at < 2 ^ 31 → (w : IsWay s v r at passed) → IsLower s v w.here w.sort next → IsWay s v r next (passed + 1)
  unfolding IsDistinct
  way_down r at next passed low w d =
      let less = d.below in
      let count = w.counted in
      record {
        whole = w.whole;
        whole_refers = w.whole_refers;
        sort = w.sort;
        whole_of = w.whole_of;
        here = d.lower;
        here_refers = d.refers;
        here_of = d.of;
        way = at ∷ w.way;
        counted = omega arith;
        distinct = (apart at w.here w.here_refers w.way w.above, w.distinct);
        above = (
          record { term = w.here; refers = w.here_refers; above = less; number = low },
          lowered (height d.lower) (height w.here) w.way (omega arith) w.above,
        );
      }

  pub way_end : (r at passed : ℕ) (u : Sort) → (w : IsWay s v r at passed) → u ≡ w.sort → (t : Term) → RefersTo s v r t → IsOf t u
  way_end r at passed u w e t h =
      let same : w.whole ≡ t = (law s table r r w.whole t w.whole_refers h).0 refl in
      rw (e, ← same) w.whole_of
