-- Private. The numbers that terms have in a table of classes, and those of assertions.
use Rattle.std.specs.Prelude.{◌≡◌, ◌⊎◌, ◌<◌, ◌^◌, ℕ, List, Contains}
use Rattle.std.specs.HashMap.{hash_map_len}
use Rattle.pair_pool.specs.Views.{PassView}
use Rattle.sym_table.specs.Names.{AreApart, PlacesItem}
use Rattle.flip_keys.specs.declared.classes.Class.{Class}
use Rattle.flip_keys.specs.declared.memory.Item.{Item}
use Rattle.flip_keys.specs.declared.numbering.Keys.{Keys}
use Rattle.flip_keys.specs.Numbers.{KeepsNumbers}
use Rattle.flip_keys.specs.Walks.{HasClassNumber, AreNumbers, RemembersItem}

-- a class has one number, and what is remembered is right
pub record AreClassKeys (pass : PassView) (keys : Keys) : Type 0 where
  pub apart : AreApart keys.classes.keys
  pub numbers : AreNumbers pass keys.classes.keys keys.memo

-- the term of the reference has this number
abbrev pub HasKeyNumber : PassView → Keys → ℕ → ℕ → Type 0
HasKeyNumber pass keys r k = HasClassNumber pass keys.classes.keys (Item.Term r) k

-- classes keep their numbers
abbrev pub HasMore : Keys → Keys → Type 0
HasMore old new = KeepsNumbers old.classes.keys new.classes.keys

-- an item has been given the number of its class
pub record Settles (old new : Keys) (x : Item) (class : Class) (k : ℕ) : Type 0 where
  pub found : PlacesItem old.classes.keys new.classes.keys k class
  pub noted : RemembersItem old.memo new.memo x k
  pub few : hash_map_len old.memo < 2 ^ 64

-- a number is there, and nothing else has come
pub record InsertsNumber (old : List ℕ) (k : ℕ) (new : List ℕ) : Type 0 where
  pub stays : (n : ℕ) → Contains old n → Contains new n
  pub here : Contains new k
  pub only : (n : ℕ) → Contains new n → Contains old n ⊎ (n ≡ k)

-- the set has these references and no other
pub record HasJust (references placed : List ℕ) : Type 0 where
  pub each : (r : ℕ) → Contains references r → Contains placed r
  pub only : (r : ℕ) → Contains placed r → Contains references r

-- the number is that of one of the references
pub record IsOfOne (pass : PassView) (keys : Keys) (references : List ℕ) (k : ℕ) : Type 0 where
  pub reference : ℕ
  pub there : Contains references reference
  pub numbered : HasKeyNumber pass keys reference k

-- the reference's number is among the numbers
pub record HasFoundNumber (pass : PassView) (keys : Keys) (numbers : List ℕ) (r : ℕ) : Type 0 where
  pub number : ℕ
  pub numbered : HasKeyNumber pass keys r number
  pub found : Contains numbers number

-- the numbers are those of the references
pub record AreFound (pass : PassView) (keys : Keys) (references numbers : List ℕ) : Type 0 where
  pub each : (r : ℕ) → Contains references r → HasFoundNumber pass keys numbers r
  pub only : (k : ℕ) → Contains numbers k → IsOfOne pass keys references k
