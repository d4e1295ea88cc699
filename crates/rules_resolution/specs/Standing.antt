-- Private. How many literals of each premise are not false.
use Rattle.std.specs.Prelude.{◌≡◌, ◌⊎◌, ℕ, ◌+◌, ◌-◌, ◌<◌, ◌≤◌, Bool, true, false, nat_eq, nat_le, if◌then◌else◌, List, [], ◌∷◌, ◌++◌, length, map}
use Rattle.std.specs.Prelude.{slice_index_or, All, Contains}
use Rattle.std.specs.List.{list_any, sum_by}
use Rattle.rule_model.specs.declared.literal.Literal.TheVariants.{Plain, Always, Never}
use Rattle.rules_resolution.specs.Falsity.{is_false_in}
use Rattle.rules_resolution.specs.Literal.{Lit}
use Rattle.rules_resolution.specs.declared.occurrence.Occurrence.{Occurrence}
use Rattle.rules_resolution.specs.declared.standing.Standing.{Standing}
use Rattle.rules_resolution.specs.Occurrence.{literal_in, is_of}

abbrev pub is_always : Lit → Bool
is_always (Plain a s) = false
is_always Always = true
is_always Never = false

-- a premise none of whose occurrences is counted
abbrev pub blank_of : List Lit → Standing
blank_of clause = record { left = if list_any is_always clause then 2 else 0; places = 0 }

abbrev pub blank_standings : List (List Lit) → List Standing
blank_standings premises = map blank_of premises ++ record { left = 2; places = 0 } ∷ []

abbrev pub open_at : List Standing → ℕ → ℕ
open_at standings p = (slice_index_or standings p (record { left = 0; places = 0 })).left

abbrev pub places_at : List Standing → ℕ → ℕ
places_at standings p = (slice_index_or standings p (record { left = 0; places = 0 })).places

abbrev pub one : Occurrence → ℕ
one o = 1

abbrev pub occurrence_place : Occurrence → ℕ
occurrence_place o = o.place

-- what an occurrence counts for premise p: nothing where it is of another one, or false
abbrev pub stands : List Lit → ℕ → (Occurrence → ℕ) → Occurrence → ℕ
stands falses p f o = if nat_eq o.premise p then (if is_false_in falses (literal_in o) then 0 else f o) else 0

abbrev pub tally : List Lit → ℕ → (Occurrence → ℕ) → List Occurrence → ℕ
tally falses p f table = sum_by (stands falses p f) table

abbrev pub AreInRange : ℕ → List Occurrence → Type 0
AreInRange n table = All (λ o. o.premise < n) table

-- the standings count what is not false
pub record IsTallied (premises : List (List Lit)) (falses : List Lit) (table : List Occurrence) (standings : List Standing) : Type 0 where
  pub size : length standings ≡ length premises + 1
  pub opens : (p : ℕ) → p < length standings → open_at standings p ≡ open_at (blank_standings premises) p + tally falses p one table
  pub places : (p : ℕ) → p < length standings → places_at standings p ≡ tally falses p occurrence_place table

-- each premise has two literals that are not false, or is ready
pub record AreReady (standings : List Standing) (ready : List ℕ) : Type 0 where
  pub each : (p : ℕ) → p < length standings → (2 ≤ open_at standings p) ⊎ Contains ready p
  pub in_range : All (λ p. p < length standings) ready

-- what an occurrence of a literal counts for premise p
abbrev pub hits : ℕ → Bool → ℕ → (Occurrence → ℕ) → Occurrence → ℕ
hits a s p f o = if nat_eq o.premise p then (if is_of a s o then f o else 0) else 0

abbrev pub taken : ℕ → Bool → ℕ → (Occurrence → ℕ) → List Occurrence → ℕ
taken a s p f table = sum_by (hits a s p f) table

-- the literal may be taken from each standing
pub record HasRoom (a : ℕ) (s : Bool) (table : List Occurrence) (standings : List Standing) : Type 0 where
  pub opens : (p : ℕ) → p < length standings → taken a s p one table ≤ open_at standings p
  pub places : (p : ℕ) → p < length standings → taken a s p occurrence_place table ≤ places_at standings p

abbrev pub total_of : List Standing → ℕ
total_of standings = sum_by (λ s. s.left) standings

-- a premise that has lost a literal has two others, or is ready
pub record Advances (old new : List Standing) (old_ready new_ready : List ℕ) : Type 0 where
  pub size : length new ≡ length old
  pub each : (p : ℕ) → p < length old → (2 ≤ open_at new p) ⊎ (Contains new_ready p ⊎ (open_at new p ≡ open_at old p))
  pub kept : (p : ℕ) → Contains old_ready p → Contains new_ready p
  pub in_range : All (λ p. p < length old) old_ready → All (λ p. p < length old) new_ready
  pub work : length new_ready + total_of new ≤ length old_ready + total_of old

-- the occurrences of the literal are taken from the standings
pub record Closes (a : ℕ) (s : Bool) (table : List Occurrence) (old new : List Standing) : Type 0 where
  pub opens : (p : ℕ) → p < length old → open_at new p + taken a s p one table ≡ open_at old p
  pub places : (p : ℕ) → p < length old → places_at new p + taken a s p occurrence_place table ≡ places_at old p

-- the standing once the occurrence is taken from it
abbrev pub lessened : List Standing → Occurrence → Standing
lessened standings o = record { left = open_at standings o.premise - 1; places = places_at standings o.premise - o.place }

-- the premises that are ready once premise q has so many literals left
abbrev pub ready_with : List ℕ → ℕ → ℕ → List ℕ
ready_with ready q left = if nat_le left 1 then ready ++ q ∷ [] else ready
