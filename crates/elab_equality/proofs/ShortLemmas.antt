-- Private. A way that uses no premise twice is no longer than the premises have literals.
use Rattle.std.proofs.Common.{◌≡◌, inl, inr, ◌≤◌, ◌+◌, ℕ, zero, suc, List, [], ◌∷◌, ◌++◌, length, map, flat_map, slice_get, Option, Some, Contains}
use Rattle.std.proofs.Common.{refl, sym, ◌∙◌, ap, subst, arith}
use Rattle.std.specs.List.{AllZip}
use Rattle.std.proofs.lemmas.List.{length-append, length-map}
use Rattle.std.proofs.lemmas.List.Elements.{Contains-append_left, Contains-append_right}
use Rattle.std.proofs.lemmas.Map.Made.{length-le_from_is_member}
use Rattle.std.specs.Cmp.{nat_eq_equiv}
use Rattle.term_model.proofs.Lists.{contains_cases, contains_head, contains_none, has_number}
use Rattle.term_model.specs.Flips.{equality}
use Rattle.term_model.specs.Terms.{Term}
use Rattle.term_pool.specs.Views.{TermsView, ReferToAll}
use Rattle.rule_model.specs.Reading.{clause_at, premises_at, premise_clauses}
use Rattle.equality_steps.specs.declared.site.Site.{Site}
use Rattle.equality_ways.specs.declared.pairs.Used.{Used}
use Rattle.equality_ways.specs.Sides.{AreSidesOfUnit}
use Rattle.equality_ways.specs.Ways.{IsNeverTwice, IsWayOver, turned_if}
use Rattle.equality_ways.proofs.Places.{zip_get}
use Rattle.elab_equality.specs.Walking.{AreSidesGiven}

-- the places of premises with literals
abbrev place_if : ℕ → List ℕ → List ℕ
place_if k [] = []
place_if k (r ∷ rs) = k ∷ []

abbrev places_from : (ℕ → List ℕ) → ℕ → List ℕ → List ℕ
places_from f k [] = []
places_from f k (j ∷ js) = place_if k (f j) ++ places_from f (suc k) js

one_place_few : (k : ℕ) (rs : List ℕ) → length (place_if k rs) ≤ length rs
one_place_few k [] = omega arith
one_place_few k (r ∷ rs) = omega arith

places_few : (f : ℕ → List ℕ) (k : ℕ) (js : List ℕ) → length (places_from f k js) ≤ length (flat_map f js)
places_few f k [] = omega arith
places_few f k (j ∷ js) =
    let first = one_place_few k (f j) in
    let rest = places_few f (suc k) js in
    let one = length-append (place_if k (f j)) (places_from f (suc k) js) in
    let two = length-append (f j) (flat_map f js) in
    omega (arith, first, rest, one, two)

has_place : (k : ℕ) (rs : List ℕ) → (length rs ≡ 0 → ⊥) → Contains (place_if k rs) k
has_place k [] some = absurd (some refl)
has_place k (r ∷ rs) some = contains_head k []

place_there : (f : ℕ → List ℕ) (k : ℕ) (js : List ℕ) (n j : ℕ) → slice_get js n ≡ Some j → (length (f j) ≡ 0 → ⊥) → Contains (places_from f k js) (k + n)
place_there f k [] n j there some = cc
place_there f k (i ∷ js) zero j there some =
    let same : i ≡ j = cc in
    let e : k ≡ k + 0 = omega arith in
    subst (Contains (places_from f k (i ∷ js))) e
    (Contains-append_left (place_if k (f i)) (places_from f (suc k) js) k
    (has_place k (f i) (λ none. some (ap (λ x. length (f x)) (sym same) ∙ none))))
place_there f k (i ∷ js) (suc n) j there some =
    let e : suc k + n ≡ k + suc n = omega arith in
    subst (Contains (places_from f k (i ∷ js))) e
    (Contains-append_right (place_if k (f i)) (places_from f (suc k) js) (suc k + n) (place_there f (suc k) js n j there some))

-- items at one place of related lists
pub zip_back : {X Y : Type 0} (R : X → Y → Type 0) (xs : List X) (ys : List Y) (k : ℕ) (y : Y) → AllZip R xs ys → slice_get ys k ≡ Some y
    → (x : X) × (slice_get xs k ≡ Some x) × R x y
zip_back R [] [] k y h e = cc
zip_back R [] (z ∷ ys) k y h e = absurd h
zip_back R (x ∷ xs) [] k y h e = absurd h
zip_back R (x ∷ xs) (z ∷ ys) zero y h e = let same : z ≡ y = cc in (x, refl, subst (R x) same h.0)
zip_back R (x ∷ xs) (z ∷ ys) (suc k) y h e = zip_back R xs ys k y h.1 e

pub map_back : {X Y : Type 0} (f : X → Y) (xs : List X) (k : ℕ) (y : Y) → slice_get (map f xs) k ≡ Some y → (x : X) × (slice_get xs k ≡ Some x) × (f x ≡ y)
map_back f [] k y e = cc
map_back f (x ∷ xs) zero y e = let same : f x ≡ y = cc in (x, refl, same)
map_back f (x ∷ xs) (suc k) y e = map_back f xs k y e

-- each place that is used has sides
record HasSidesAt (sides : List (Option (ℕ × ℕ))) (place : ℕ) : Type 0 where
  pair : ℕ × ℕ
  there : slice_get sides place ≡ Some (Some pair)

all_used : (sides : List (Option (ℕ × ℕ))) (a b : ℕ) (used : List Used) → IsWayOver sides a b used → (q : ℕ) → Contains (map (λ (u : Used). u.place) used) q
    → HasSidesAt sides q
all_used sides a b [] way q has = absurd (contains_none q has)
all_used sides a b (u ∷ used) (next, leads, rest) q has = elim (contains_cases u.place q (map (λ (x : Used). x.place) used) has) [
  | inl same ↦ record { pair = turned_if u.turned (a, next); there = subst (λ k. slice_get sides k ≡ Some (Some (turned_if u.turned (a, next)))) same leads }
  | inr later ↦ all_used sides next b used rest q later
]

module _ (p : Site) (v : TermsView) (sides : List (Option (ℕ × ℕ))) (given : AreSidesGiven p v sides) where
  unit_length : (rs : List ℕ) (clause : List Term) (t : Term) → ReferToAll p.symbols.now v rs clause → clause ≡ t ∷ [] → length rs ≡ 0 → ⊥
  unit_length [] [] t h e none = let d : ◌≡◌ {A = ℕ} 0 1 = ap length e in absurd (omega (arith, d))
  unit_length [] (x ∷ clause) t h e none = absurd h
  unit_length (r ∷ rs) clause t h e none = absurd (omega (arith, none))

  used_place : (q : ℕ) → HasSidesAt sides q → Contains (places_from (clause_at p.proof.now) 0 (premises_at p.proof.now p.command)) q
  used_place q h =
      let one = zip_get (AreSidesOfUnit p.symbols.now v) sides given.premises q (Some h.pair) given.sides_are h.there in
      let other = zip_back (ReferToAll p.symbols.now v) (premise_clauses p.proof.now p.command) given.premises q one.0 given.are one.1 in
      let back = map_back (clause_at p.proof.now) (premises_at p.proof.now p.command) q other.0 other.1 in
      let e : 0 + q ≡ q = omega arith in
      subst (Contains (places_from (clause_at p.proof.now) 0 (premises_at p.proof.now p.command))) e
      (place_there (clause_at p.proof.now) 0 (premises_at p.proof.now p.command) q back.0 back.1
      (λ none. unit_length other.0 one.0 (equality one.2.0.0 one.2.0.1) other.2 one.2.2 (ap length (sym back.2) ∙ none)))

  pub way_short : (a b : ℕ) (used : List Used) → IsWayOver sides a b used → IsNeverTwice used
      → length used ≤ length (flat_map (clause_at p.proof.now) (premises_at p.proof.now p.command))
  way_short a b used way once =
      let places = map (λ (u : Used). u.place) used in
      let listed = places_from (clause_at p.proof.now) 0 (premises_at p.proof.now p.command) in
      let within = length-le_from_is_member nat_eq_equiv places listed once
      (λ q has. (has_number listed q).1 (used_place q (all_used sides a b used way q ((has_number places q).0 has)))) in
      let few = places_few (clause_at p.proof.now) 0 (premises_at p.proof.now p.command) in
      let same = length-map used (λ (u : Used). u.place) in
      omega (arith, within, few, same)
