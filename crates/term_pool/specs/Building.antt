-- Public. What the calls that build terms return and place.
use Rattle.std.specs.Prelude.{◌≡◌, ℕ, pos, ◌⊎◌, List, [], ◌∷◌}
use Rattle.pair_pool.specs.Trees.{Tree, cell}
use Rattle.pair_pool.specs.Views.{PassView, Knows, IsPlaced, IsFullFor}
use Rattle.sym_table.specs.Leaf.{operator}
use Rattle.sym_table.specs.Leaf as Leaf
use Rattle.sym_table.specs.Table.{Table, IsLeaf}
use Rattle.term_model.specs.Terms.{Term, Bindings, numeral, variable, operation, call, let_in, list_of, no_bindings, binding}
use Rattle.term_pool.specs.StandsFor.{variable_leaf, function_leaf}
use Rattle.term_pool.specs.Trees.{IsPartOf}
use Rattle.term_pool.specs.Views.{TermsView, RefersTo, KeepsPass}

-- t is the application of the symbol of leaf `head` to the terms ts, and that symbol itself where there are none
abbrev pub IsAppliedLeaf : Table → ℕ → List Term → Term → Type 0
IsAppliedLeaf s head ts (numeral n) = IsLeaf s head (Leaf.numeral (pos n)) × (ts ≡ [])
IsAppliedLeaf s head ts (variable x) = IsLeaf s head (variable_leaf x) × (ts ≡ [])
IsAppliedLeaf s head ts (operation op us) = IsLeaf s head (operator op) × (list_of us ≡ ts)
IsAppliedLeaf s head ts (call f us) = IsLeaf s head (function_leaf f) × (list_of us ≡ ts)
IsAppliedLeaf s head ts (let_in bs u) = ⊥

-- the bindings are those of the variables' leaves to the values, in order
abbrev pub AreBindings : Table → TermsView → List ℕ → List ℕ → Bindings → Type 0
AreBindings s v [] [] no_bindings = Unit {0}
AreBindings s v [] [] (binding x t bs) = ⊥
AreBindings s v [] (r ∷ rs) bs = ⊥
AreBindings s v (k ∷ ks) [] bs = ⊥
AreBindings s v (k ∷ ks) (r ∷ rs) no_bindings = ⊥
AreBindings s v (k ∷ ks) (r ∷ rs) (binding x t bs) =
    IsLeaf s k (variable_leaf x) × RefersTo s v r t × AreBindings s v ks rs bs

-- the references a and b are known to be the parts of a cell of the tree
pub record IsCellIn (pass : PassView) (a b : ℕ) (tree : Tree) : Type 0 where
  pub first : Tree
  pub second : Tree
  pub first_known : Knows pass a first
  pub second_known : Knows pass b second
  pub part : IsPartOf (cell first second) tree

-- what the new pass placed and the old one had not, are cells of the tree
abbrev pub PlacesOnlyIn : PassView → PassView → Tree → Type 0
PlacesOnlyIn old new tree =
    (r a b : ℕ) → IsPlaced new r a b → IsPlaced old r a b ⊎ IsCellIn new a b tree

-- the pass has seen all places occupied by other cells than one of the tree
pub record IsFullIn (pass : PassView) (tree : Tree) : Type 0 where
  pub first : ℕ
  pub second : ℕ
  pub wanted : IsCellIn pass first second tree
  pub full : IsFullFor pass first second

-- the pass has come to know r as the reference of the tree, and placed nothing but cells of it
pub record Builds (old new : PassView) (r : ℕ) (tree : Tree) : Type 0 where
  pub keeps : KeepsPass old new
  pub stands : Knows new r tree
  pub placed : PlacesOnlyIn old new tree

-- there was no room for a cell of the tree, and nothing but cells of it was placed
pub record LacksRoom (old new : PassView) (tree : Tree) : Type 0 where
  pub keeps : KeepsPass old new
  pub full : IsFullIn new tree
  pub placed : PlacesOnlyIn old new tree

-- The cell (a, b) has been interned: r is its reference, and nothing else was placed.
pub record Interns (old new : PassView) (a b r : ℕ) : Type 0 where
  pub keeps : KeepsPass old new
  pub stands : (s t : Tree) → Knows old a s → Knows old b t → Knows new r (cell s t)
  pub placed : (q c d : ℕ) → IsPlaced new q c d → IsPlaced old q c d ⊎ ((c ≡ a) × (d ≡ b))

-- the cell (a, b) has no room, and nothing was placed
pub record Refuses (old new : PassView) (a b : ℕ) : Type 0 where
  pub keeps : KeepsPass old new
  pub placed : new.placed ≡ old.placed
  pub full : IsFullFor new a b
