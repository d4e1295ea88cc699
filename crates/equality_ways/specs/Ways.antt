-- Public. Ways over equalities by the references of their sides: each is walked from one side to the other, in either direction.
use Rattle.std.specs.Prelude.{◌≡◌, ◌⊎◌, ◌≤◌, ℕ, nat_eq, Bool, List, [], ◌∷◌, length, map, Contains, slice_get, Option, Some, if◌then◌else◌}
use Rattle.std.specs.List.{IsDistinct}
use Rattle.equality_ways.specs.declared.pairs.Used.{Used}

-- the sides of an equality, turned round or as they stand
abbrev pub turned_if : {X : Type 0} → Bool → X × X → X × X
turned_if turned p = if turned then (p.1, p.0) else p

-- the equality that is used leads from one reference to the other
abbrev pub LeadsTo : List (Option (ℕ × ℕ)) → Used → ℕ → ℕ → Type 0
LeadsTo sides u a b = slice_get sides u.place ≡ Some (Some (turned_if u.turned (a, b)))

-- the equalities that are used lead from one reference to the other, each on from where the one before it ends
abbrev pub IsWayOver : List (Option (ℕ × ℕ)) → ℕ → ℕ → List Used → Type 0
IsWayOver sides a b [] = a ≡ b
IsWayOver sides a b (u ∷ used) = (next : ℕ) × LeadsTo sides u a next × IsWayOver sides next b used

-- no way from the one reference to the other uses fewer equalities
abbrev pub IsShortest : List (Option (ℕ × ℕ)) → ℕ → ℕ → List Used → Type 0
IsShortest sides a b used = (other : List Used) → IsWayOver sides a b other → length used ≤ length other

-- none of them is used twice
abbrev pub IsNeverTwice : List Used → Type 0
IsNeverTwice used = IsDistinct nat_eq (map (λ (u : Used). u.place) used)

-- two references are the sides of an equality, in this order or the other
abbrev pub AreEnds : List (Option (ℕ × ℕ)) → ℕ → ℕ → Type 0
AreEnds sides a b = Contains sides (Some (a, b)) ⊎ Contains sides (Some (b, a))
