-- Private. What a search for a leaf that stands free leaves to be looked at.
use Rattle.std.specs.Prelude.{◌≡◌, ◌<◌, ◌↔◌, ◌⊎◌, ◌+◌, ◌-◌, ◌^◌, length, ℕ, Bool, true, false, IsTrue, List, [], ◌∷◌, ◌++◌, Contains}
use Rattle.pair_pool.specs.Trees.{Tree}
use Rattle.pair_pool.specs.Views.{PassView, Knows}
use Rattle.term_pool.specs.Trees.{depth}
use Rattle.contexts.specs.Shapes.{HasShape, HasLetShape, HasListShape}
use Rattle.contexts.specs.declared.met.Met.{Met}
use Rattle.contexts.specs.FreeLeaves.{IsFreeLeaf, IsFreeInLet, IsFreeInValues, BindsLeaf}

-- the reference has the shape of a term, and where leaf k stands free in it, P
pub record IsFine (pass : PassView) (k : ℕ) (P : Type 0) (r : ℕ) : Type 0 where
  pub tree : Tree
  pub known : Knows pass r tree
  pub shape : HasShape tree
  pub sound : IsFreeLeaf k tree → P

-- leaf k stands free in one of the references, which is less deep than n
pub record HasFree (pass : PassView) (k : ℕ) (list : List ℕ) (n : ℕ) : Type 0 where
  pub reference : ℕ
  pub here : Contains list reference
  pub tree : Tree
  pub known : Knows pass reference tree
  pub free : IsFreeLeaf k tree
  pub less : depth tree < n

-- leaf k stands free in one of these parts exactly where P, and they are less deep than n
pub record ArePartsOf (pass : PassView) (k : ℕ) (P : Type 0) (n : ℕ) (parts : List ℕ) : Type 0 where
  pub each : (c : ℕ) → Contains parts c → IsFine pass k P c
  pub some : P → HasFree pass k parts n

-- behind the old references stand the parts of the cell r in which leaf k may stand free
pub record LeavesParts (pass : PassView) (k r : ℕ) (old new : List ℕ) : Type 0 where
  pub parts : List ℕ
  pub added : new ≡ old ++ parts
  pub are : (t : Tree) → Knows pass r t → HasShape t → ArePartsOf pass k (IsFreeLeaf k t) (depth t) parts

-- behind the old references stand the values of the list of bindings r, and `hidden` says whether it binds leaf k
pub record LeavesValues (pass : PassView) (k r : ℕ) (old new : List ℕ) (hidden : Bool) : Type 0 where
  pub parts : List ℕ
  pub added : new ≡ old ++ parts
  pub are : (t : Tree) → Knows pass r t → HasListShape t → ArePartsOf pass k (IsFreeInValues k t) (depth t) parts
  pub hides : (t : Tree) → Knows pass r t → HasListShape t → IsTrue hidden ↔ BindsLeaf k t

-- behind the old references stand the parts of the cell r of a let's bindings and its body
pub record LeavesLet (pass : PassView) (k r : ℕ) (old new : List ℕ) : Type 0 where
  pub parts : List ℕ
  pub added : new ≡ old ++ parts
  pub are : (t : Tree) → Knows pass r t → HasLetShape t → ArePartsOf pass k (IsFreeInLet k t) (depth t) parts

-- r was not in the list and stands at its end now, or it was there and the list is as before
abbrev pub IsNoted : List ℕ → List ℕ → ℕ → Bool → Type 0
IsNoted old new r true = (¬ Contains old r) × (new ≡ old ++ r ∷ [])
IsNoted old new r false = Contains old r × (new ≡ old)

-- more cells than these are not opened
abbrev pub openings_left : Met → ℕ
openings_left met = met.unmarked + (2 ^ 64 - length met.cells.keys)

-- what is remembered now was before, or is r; or r was remembered and nothing has changed
abbrev pub IsMet : Met → Met → ℕ → Bool → Type 0
IsMet old new r true =
    ((x : ℕ) → Contains new.cells.keys x → Contains old.cells.keys x ⊎ (r ≡ x)) × (openings_left new < openings_left old)
IsMet old new r false =
    Contains old.cells.keys r × (new.cells.keys ≡ old.cells.keys) × (openings_left new ≡ openings_left old)
