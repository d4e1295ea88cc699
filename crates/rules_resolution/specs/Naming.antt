-- Private. Keys, by which the literals of an atom come together.
use Rattle.std.specs.Prelude.{◌≡◌, ℕ, ◌+◌, ◌*◌, ◌<◌, ◌≤◌, nat_eq, if◌then◌else◌, Some, List, [], ◌∷◌, ◌++◌, length, slice_index_or, All}
use Rattle.rule_model.specs.Consequence.{literal_at}
use Rattle.rule_model.specs.declared.literal.Literal.TheVariants.{Plain, Always, Never}
use Rattle.rules_resolution.specs.Literal.{Lit}
use Rattle.rules_resolution.specs.declared.naming.Key.{Key}
use Rattle.rules_resolution.specs.Renaming.{atom_of, atom_name_at}

-- by atom, then number
abbrev pub key_rank : Key → ℕ
key_rank k = k.atom * 4294967296 + k.number

-- the key of literal i, if it is no constant
abbrev pub key_at : ℕ → Lit → List Key
key_at i (Plain a s) = record { atom = a; number = i } ∷ []
key_at i Always = []
key_at i Never = []

-- those of literals, the first of which is number i
abbrev pub keys_from : ℕ → List Lit → List Key
keys_from i [] = []
keys_from i (l ∷ ls) = key_at i l ++ keys_from (i + 1) ls

-- the literal of this number has this atom
pub record IsKeyOf (literals : List Lit) (k : Key) : Type 0 where
  pub within : k.number < length literals
  pub atom : atom_of (literal_at literals k.number) ≡ Some k.atom

-- keys of some list of so many literals
abbrev pub AreKeys : ℕ → List Key → Type 0
AreKeys count keys = (literals : List Lit) × (length literals ≡ count) × All (IsKeyOf literals) keys

-- up to key `at`, those from `first` on are of one atom, and those before it of lesser ones
pub record IsRun (keys : List Key) (first at : ℕ) : Type 0 where
  pub alike : (q : ℕ) (d : Key) → first ≤ q → q < at → (slice_index_or keys q d).atom ≡ (slice_index_or keys first d).atom
  pub before : (q : ℕ) (d : Key) → q < first → (slice_index_or keys q d).atom < (slice_index_or keys first d).atom

-- the number of an atom's first key
abbrev pub key_number_in : List Key → ℕ → ℕ
key_number_in [] a = 0
key_number_in (k ∷ ks) a = if nat_eq k.atom a then k.number else key_number_in ks a

-- each literal with a key has the name of its atom
abbrev pub HasNames : List Key → List ℕ → Type 0
HasNames keys names = All (λ k. atom_name_at names k.number ≡ key_number_in keys k.atom) keys
