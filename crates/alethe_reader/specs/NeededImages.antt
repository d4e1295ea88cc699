-- Private. The images that are put in for the variables that stand in a term, and not those of all variables.
use Rattle.std.specs.Prelude.{◌≡◌, ℕ, Bool, true, false, List, [], ◌∷◌, ◌++◌, slice_get, Option, Some, None, Contains}
use Rattle.pair_pool.specs.Trees.{Tree, leaf, cell}
use Rattle.pair_pool.specs.Views.{PassView, Knows}
use Rattle.sym_table.specs.Table.{Table, IsLeaf}
use Rattle.term_model.specs.Terms.{Var}
use Rattle.term_pool.specs.StandsFor.{variable_leaf}

-- the leaves of the tree are among these
abbrev pub HasLeavesAmong : List ℕ → Tree → Type 0
HasLeavesAmong leaves (leaf k) = Contains leaves k
HasLeavesAmong leaves (cell s t) = HasLeavesAmong leaves s × HasLeavesAmong leaves t

-- A leaf with its image is one of these, and no other is that of a variable of this leaf's name.
pub record IsImageAmong (s : Table) (names : List (List ℕ)) (images : List (ℕ × ℕ)) (b : ℕ × ℕ) : Type 0 where
  pub place : ℕ
  pub here : slice_get images place ≡ Some b
  pub alone : (x : Var) → IsLeaf s b.0 (variable_leaf x) → (n : ℕ) → slice_get names n ≡ Some x.name → n ≡ place

-- none of these is the image of the leaf
abbrev pub HasNoImage : Table → List (List ℕ) → List (ℕ × ℕ) → ℕ → Type 0
HasNoImage s names images k =
    (x : Var) → IsLeaf s k (variable_leaf x) → (n image : ℕ) → slice_get names n ≡ Some x.name → slice_get images n ≡ Some (k, image) → ⊥

abbrev pub IsImageFound : Table → List (List ℕ) → List (ℕ × ℕ) → ℕ → Option ℕ → Type 0
IsImageFound s names images k (Some image) = IsImageAmong s names images (k, image)
IsImageFound s names images k None = HasNoImage s names images k

-- These are the images of the leaves that have one.
pub record AreImagesOf (s : Table) (names : List (List ℕ)) (images : List (ℕ × ℕ)) (leaves : List ℕ) (needed : List (ℕ × ℕ)) : Type 0 where
  pub each : (b : ℕ × ℕ) → Contains needed b → IsImageAmong s names images b
  pub all : (k : ℕ) → Contains leaves k → (x : Var) → IsLeaf s k (variable_leaf x) → (n image : ℕ) → slice_get names n ≡ Some x.name →
      slice_get images n ≡ Some (k, image) → Contains needed (k, image)

-- The images among these of what the term of a reference needs.
pub record AreNeeded (s : Table) (pass : PassView) (names : List (List ℕ)) (images : List (ℕ × ℕ)) (r : ℕ) (needed : List (ℕ × ℕ)) : Type 0 where
  pub leaves : List ℕ
  pub among : (t : Tree) → Knows pass r t → HasLeavesAmong leaves t
  pub are : AreImagesOf s names images leaves needed

-- it was not in the list and stands at its end now, or it was there and the list is as before
abbrev pub IsMet : List ℕ → List ℕ → ℕ → Bool → Type 0
IsMet old new r true = (¬ Contains old r) × (new ≡ old ++ r ∷ [])
IsMet old new r false = Contains old r × (new ≡ old)
