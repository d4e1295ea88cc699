-- Private. What the search for a way knows.
use Rattle.std.specs.Prelude.{◌≡◌, ◌≢◌, ◌⊎◌, ◌<◌, ◌≤◌, ◌^◌, ℕ, Bool, true, List, [], Contains, length, take, get_or}
use Rattle.rule_model.specs.declared.rules.Mode.{Mode}
use Rattle.rule_model.specs.Congruence.{IsConnected}
use Rattle.rules_congruence.specs.declared.links.Link.{Link}
use Rattle.rules_congruence.specs.Links.{link}
use Rattle.rules_congruence.specs.Pairs.{AreEnds, IsPath}

-- the table leads from one reference to the other by one link
abbrev pub IsNear : List Link → ℕ → ℕ → Type 0
IsNear links a b = Contains links (link a b)

-- the numbers are those of references
abbrev pub AreReferences : List ℕ → Type 0
AreReferences keys = (b : ℕ) → Contains keys b → b < 2 ^ 31

-- a key is there, what was there stays in its order, and nothing else is there
pub record Inserts (old : List ℕ) (k : ℕ) (new : List ℕ) : Type 0 where
  pub long : length old ≤ length new
  pub kept : (n : ℕ) → n ≤ length old → take n new ≡ take n old
  pub stays : (b : ℕ) → Contains old b → Contains new b
  pub key : Contains new k
  pub only : (b : ℕ) → Contains new b → Contains old b ⊎ (k ≡ b)

-- the same of the ends of the links from one place to another
pub record HasEndsTo (links : List Link) (from first place : ℕ) (old new : List ℕ) : Type 0 where
  pub long : length old ≤ length new
  pub kept : (n : ℕ) → n ≤ length old → take n new ≡ take n old
  pub stays : (b : ℕ) → Contains old b → Contains new b
  pub ends : (k : ℕ) (d : Link) → first ≤ k → k < place → Contains new (get_or links k d).to
  pub only : (b : ℕ) → Contains new b → Contains old b ⊎ IsNear links from b

-- the same of the ends of all links from a reference
pub record AddsEnds (links : List Link) (from : ℕ) (old new : List ℕ) : Type 0 where
  pub long : length old ≤ length new
  pub kept : (n : ℕ) → n ≤ length old → take n new ≡ take n old
  pub stays : (b : ℕ) → Contains old b → Contains new b
  pub ends : (b : ℕ) → IsNear links from b → Contains new b
  pub only : (b : ℕ) → Contains new b → Contains old b ⊎ IsNear links from b

-- so many of those reached were followed; each is connected to the first
pub record IsWayReached (links : List Link) (from at : ℕ) (keys : List ℕ) : Type 0 where
  pub first : Contains keys from
  pub within : at ≤ length keys
  pub small : AreReferences keys
  pub sound : (b : ℕ) → Contains keys b → IsConnected (IsNear links) from b
  pub closed : (k b : ℕ) → k < at → IsNear links (get_or keys k 0) b → Contains keys b

-- the way of transitivity by pairs, among which there is nothing else or something, by the mode
abbrev pub IsWayBy : Mode → List (ℕ × ℕ) → Bool → ℕ → ℕ → Type 0
IsWayBy Mode.Check pairs only a b = IsConnected (AreEnds pairs) a b
IsWayBy Mode.Strict pairs only a b = (only ≡ true) × ((pairs ≢ []) × IsPath pairs a b)
