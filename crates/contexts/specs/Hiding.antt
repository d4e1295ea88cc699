-- Private. Which leaves a let hides below it.
use Rattle.std.specs.Prelude.{◌≡◌, ◌⊎◌, ℕ, List, ◌++◌, Contains, nat_eq, Some}
use Rattle.std.specs.HashMap.{get}
use Rattle.pair_pool.specs.Trees.{Tree}
use Rattle.pair_pool.specs.Views.{PassView, Knows}
use Rattle.term_pool.specs.Trees.{pair_leaves}
use Rattle.contexts.specs.Becoming.{image, Images, AreImages}
use Rattle.contexts.specs.FreeLeaves.{IsFreeLeaf}
use Rattle.contexts.specs.Shapes.{HasListShape}

-- something is put in for leaf k
abbrev pub IsReplacedLeaf : Images → ℕ → Type 0
IsReplacedLeaf images k = (r : ℕ) × (get nat_eq images k ≡ Some r)

-- the new list has of these leaves those for which something is put in and that were not hidden
pub record AddsHidden (images : Images) (hidden leaves old new : List ℕ) : Type 0 where
  pub kept : (k : ℕ) → Contains old k → Contains new k
  pub all : (k : ℕ) → Contains leaves k → IsReplacedLeaf images k → Contains hidden k ⊎ Contains new k
  pub only : (k : ℕ) → Contains new k → Contains old k ⊎ Contains leaves k

-- behind the old leaves stand those of the list that stand free in what the reference stands for
pub record AddsFree (pass : PassView) (leaves : List ℕ) (r : ℕ) (old new : List ℕ) : Type 0 where
  pub kept : (k : ℕ) → Contains old k → Contains new k
  pub all : (t : Tree) → Knows pass r t → (k : ℕ) → Contains leaves k → IsFreeLeaf k t → Contains new k
  pub only : (k : ℕ) → Contains new k → Contains old k ⊎ Contains leaves k

-- Below a let these leaves are hidden that were before, or that it binds. Of others it says as much as matters in its body.
abbrev pub Hides : PassView → Images → List ℕ → ℕ → ℕ → List ℕ → Type 0
Hides pass images hidden list body under =
    (f : ℕ → Tree) → AreImages pass images f → (t u : Tree) → Knows pass list t → HasListShape t → Knows pass body u →
    (k : ℕ) → IsFreeLeaf k u → image f under k ≡ image f (hidden ++ pair_leaves t) k
