-- Private. Cells in a list, each after its parts: which trees they are, and the walk that lists them.
use Rattle.std.specs.Prelude.{◌≡◌, ℕ, ◌<◌, ◌^◌, ◌⊎◌, List, [], ◌∷◌, ◌++◌, length, slice_index, slice_index_or}
use Rattle.pair_pool.specs.Trees.{Tree, leaf, cell}
use Rattle.pair_pool.specs.Views.{PassView, Knows}
use Rattle.term_pool.specs.declared.listing.Part.{Part}
use Rattle.term_pool.specs.declared.listing.Part.TheVariants.{Leaf, Cell}
use Rattle.term_pool.specs.declared.listing.ListedCell.{ListedCell}
use Rattle.term_pool.specs.declared.listing.Listing.{Listing}
use Rattle.term_pool.specs.Trees.{IsPartOf, IsCellTree}
use Rattle.term_pool.specs.CellCounts.{Has}
use Rattle.term_pool.specs.Numbering.{HasNumber, IsNumbering, IsNext}

-- what a part is, where the trees of the list's cells are these
abbrev pub tree_of : List Tree → Part → Tree
tree_of trees (Leaf k) = leaf k
tree_of trees (Cell n) = slice_index_or trees n (leaf 0)

abbrev pub listed_tree : List Tree → ListedCell → Tree
listed_tree trees c = cell (tree_of trees c.first) (tree_of trees c.second)

-- the trees of a list's cells: those that stand before, and behind them those of the others in order
abbrev pub trees_after : List Tree → List ListedCell → List Tree
trees_after before [] = before
trees_after before (c ∷ cells) = trees_after (before ++ listed_tree before c ∷ []) cells

abbrev pub trees_of : List ListedCell → List Tree
trees_of cells = trees_after [] cells

-- a leaf, or one of the first n cells
abbrev pub IsBefore : ℕ → Part → Type 0
IsBefore n (Leaf k) = k < 2 ^ 30
IsBefore n (Cell k) = k < n

-- the cell at place k, counted from 0
abbrev pub cell_at : List ListedCell → ℕ → ListedCell
cell_at cells k = slice_index_or cells k (record { first = Leaf 0; second = Leaf 0 })

-- the tree is a leaf or has been listed
abbrev pub IsMet : List Tree → Tree → Type 0
IsMet trees t = IsCellTree t → Has trees t

-- the tree is a cell, and its parts are leaves or have been listed
abbrev pub IsAfterParts : List Tree → Tree → Type 0
IsAfterParts trees (leaf k) = ⊥
IsAfterParts trees (cell a b) = IsMet trees a × IsMet trees b

-- each reference is known to be the tree at its place
pub record AreKnown (pass : PassView) (references : List ℕ) (trees : List Tree) : Type 0 where
  pub each : length trees ≡ length references
  pub known :
      (k : ℕ) → k < length references → Knows pass (slice_index references k) (slice_index_or trees k (leaf 0))

-- the part is this tree
pub record Denotes (trees : List Tree) (part : Part) (t : Tree) : Type 0 where
  pub before : IsBefore (length trees) part
  pub is : tree_of trees part ≡ t

-- the part is the reference r, where the cells of the list have these references
abbrev pub IsPartAt : List ℕ → ℕ → Part → Type 0
IsPartAt cells r (Leaf k) = (k ≡ r) × (r < 2 ^ 30)
IsPartAt cells r (Cell n) = HasNumber cells n r

-- The list has cells that the pass knows, each once and after its parts, and the number of each.
pub record IsListing (pass : PassView) (listing : Listing) : Type 0 where
  pub numbering : IsNumbering listing.met
  pub places : listing.met.places ≡ pass.places
  pub known : AreKnown pass listing.met.cells.items (trees_of listing.cells.items)
  pub before :
      (k : ℕ) → k < length listing.cells.items →
      IsBefore k (cell_at listing.cells.items k).first × IsBefore k (cell_at listing.cells.items k).second
  pub after : (t : Tree) → Has (trees_of listing.cells.items) t → IsAfterParts (trees_of listing.cells.items) t

-- the new list has what the old one had, and else only cells of the tree
pub record AddsCells (old new : List Tree) (t : Tree) : Type 0 where
  pub kept : (u : Tree) → Has old u → Has new u
  pub only : (u : Tree) → Has new u → Has old u ⊎ IsPartOf u t

-- one cell more has been listed, and is this part
pub record IsAdded (old new : Listing) (whole : ℕ) (first second part : Part) : Type 0 where
  pub next : IsNext old.met new.met whole
  pub cells : new.cells.items ≡ old.cells.items ++ record { first = first; second = second } ∷ []
  pub is : part ≡ Cell (length old.met.cells.items)
