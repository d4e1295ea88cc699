-- Private. Trees as lists, and the references of their items.
use Rattle.std.specs.Prelude.{ℕ, zero, suc, List, [], ◌∷◌, ◌≡◌, ◌<◌, ◌++◌}
use Rattle.pair_pool.specs.Trees.{Tree, leaf, cell}
use Rattle.pair_pool.specs.Views.{PassView, Knows}
use Rattle.term_pool.specs.Trees.{pair_leaves}
use Rattle.term_pool.specs.Views.{KnowsAll}

-- how many items the tree has as a list
abbrev pub list_length : Tree → ℕ
list_length (leaf k) = 0
list_length (cell a b) = suc (list_length b)

-- the items of the tree as a list
abbrev pub tree_items : Tree → List Tree
tree_items (leaf k) = []
tree_items (cell a b) = a ∷ tree_items b

-- the item of the tree as a list at place i, counted from 0
abbrev pub list_item : Tree → ℕ → Tree
list_item (leaf k) i = leaf k
list_item (cell a b) zero = a
list_item (cell a b) (suc i) = list_item b i

-- each item of the tree as a list is the cell of a leaf and a tree
abbrev pub AreLeafPairs : Tree → Type 0
AreLeafPairs (leaf k) = Unit {0}
AreLeafPairs (cell (leaf j) b) = ⊥
AreLeafPairs (cell (cell (leaf k) t) b) = AreLeafPairs b
AreLeafPairs (cell (cell (cell c d) t) b) = ⊥

-- the trees of these cells
abbrev pub pair_trees : Tree → List Tree
pair_trees (leaf k) = []
pair_trees (cell (leaf j) b) = []
pair_trees (cell (cell c t) b) = t ∷ pair_trees b

-- r is known to be a list with an item at place i
pub record HasItem (pass : PassView) (r i : ℕ) : Type 0 where
  pub tree : Tree
  pub stands : Knows pass r tree
  pub there : i < list_length tree

-- behind the old references stand those of the items of the list, in order
pub record AddsItems (pass : PassView) (list : ℕ) (old new : List ℕ) : Type 0 where
  pub items : List ℕ
  pub added : new ≡ old ++ items
  pub known : (t : Tree) → Knows pass list t → KnowsAll pass items (tree_items t)

-- r is known to be a list of pairs of a leaf and a tree
pub record IsPairList (pass : PassView) (r : ℕ) : Type 0 where
  pub tree : Tree
  pub stands : Knows pass r tree
  pub pairs : AreLeafPairs tree

-- behind the old leaves and references stand those of the pairs of the list, in order
pub record AddsPairs (pass : PassView) (list : ℕ) (old_leaves new_leaves old new : List ℕ) : Type 0 where
  pub leaves : List ℕ
  pub leaves_added : new_leaves ≡ old_leaves ++ leaves
  pub items : List ℕ
  pub added : new ≡ old ++ items
  pub leaves_are : (t : Tree) → Knows pass list t → leaves ≡ pair_leaves t
  pub known : (t : Tree) → Knows pass list t → KnowsAll pass items (pair_trees t)
