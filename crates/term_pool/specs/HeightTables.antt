-- Private. The heights of cells by those of their parts.
use Rattle.std.specs.Prelude.{◌+◌, ◌==◌, max, Bool, false, if◌then◌else◌}
use Rattle.pair_pool.specs.Trees.{Tree, leaf, cell}
use Rattle.term_pool.specs.declared.heights.Heights.{Heights}
use Rattle.term_pool.specs.declared.listing.Part.{Part}
use Rattle.term_pool.specs.declared.listing.Part.TheVariants.{Leaf, Cell}
use Rattle.term_pool.specs.Heights.{is_let_head}

-- What a tree is as a term, as a list of arguments, as a list of bindings, as the cell of a variable and its value,
-- and as the rest of a let: its height, the greatest of its items, the greatest of its values, the value's height,
-- and the greatest of values and body.
abbrev pub leaf_heights : Heights
leaf_heights = record { term = 1; list = 0; bindings = 0; value = 0; rest = 0 }

abbrev pub cell_heights : Bool → Heights → Heights → Heights
cell_heights is_let a b = record {
  term = (if is_let then b.rest else b.list) + 1;
  list = max a.term b.list;
  bindings = max a.value b.bindings;
  value = b.term;
  rest = max a.bindings b.term;
}

abbrev pub heights_of : Tree → Heights
heights_of (leaf k) = leaf_heights
heights_of (cell a b) = cell_heights (is_let_head a) (heights_of a) (heights_of b)

-- the part of a cell is the leaf at the head of a let
abbrev pub is_let_leaf : Part → Bool
is_let_leaf (Leaf k) = k == 1
is_let_leaf (Cell n) = false
