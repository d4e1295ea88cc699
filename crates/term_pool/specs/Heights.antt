-- Public. The heads of lets.
use Rattle.std.specs.Prelude.{◌==◌, Bool, false}
use Rattle.pair_pool.specs.Trees.{Tree, leaf, cell}

-- the tree is the head of a let
abbrev pub is_let_head : Tree → Bool
is_let_head (leaf k) = k == 1
is_let_head (cell a b) = false
