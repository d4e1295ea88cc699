-- Public. The trees of lists, applications and lets, and the parts and sizes of trees.
use Rattle.std.specs.Prelude.{◌≡◌, ℕ, ◌⊎◌, List, [], ◌∷◌}
pub use Rattle.pair_pool.specs.Trees.{depth}
use Rattle.pair_pool.specs.Trees.{Tree, leaf, cell}
use Rattle.term_pool.specs.StandsFor.{nil_tree, let_tree}

-- a list of trees as one tree
abbrev pub list_tree : List Tree → Tree
list_tree [] = nil_tree
list_tree (t ∷ ts) = cell t (list_tree ts)

-- the application of a leaf to arguments
abbrev pub app_tree : ℕ → List Tree → Tree
app_tree head [] = leaf head
app_tree head (t ∷ ts) = cell (leaf head) (list_tree (t ∷ ts))

-- the bindings of variables to values, as the list of their cells
abbrev pub binding_trees : List ℕ → List Tree → List Tree
binding_trees [] ts = []
binding_trees (x ∷ xs) [] = []
binding_trees (x ∷ xs) (t ∷ ts) = cell (leaf x) t ∷ binding_trees xs ts

abbrev pub let_term_tree : List ℕ → List Tree → Tree → Tree
let_term_tree vars values body = cell let_tree (cell (list_tree (binding_trees vars values)) body)

-- the first tree is the second or a part of it, at any depth
abbrev pub IsPartOf : Tree → Tree → Type 0
IsPartOf part (leaf k) = part ≡ leaf k
IsPartOf part (cell a b) = (part ≡ cell a b) ⊎ (IsPartOf part a ⊎ IsPartOf part b)

-- the tree is a cell
abbrev pub IsCellTree : Tree → Type 0
IsCellTree (leaf k) = ⊥
IsCellTree (cell a b) = Unit {0}

-- the leaves of the items of the tree as a list, up to the first that is not the cell of a leaf and a tree
abbrev pub pair_leaves : Tree → List ℕ
pair_leaves (leaf k) = []
pair_leaves (cell (leaf j) b) = []
pair_leaves (cell (cell (leaf k) t) b) = k ∷ pair_leaves b
pair_leaves (cell (cell (cell c d) t) b) = []
