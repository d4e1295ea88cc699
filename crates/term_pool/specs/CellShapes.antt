-- Private. The shapes of terms by their cells.
use Rattle.std.specs.Prelude.{◌≡◌, ℕ, ◌==◌, if◌then◌else◌}
use Rattle.pair_pool.specs.Trees.{Tree, leaf, cell}
use Rattle.pair_pool.specs.Views.{PassView, Knows}
use Rattle.sym_table.specs.Leaf.{Leaf, operator, function}
use Rattle.term_pool.specs.declared.shape.Shape.{Shape}
use Rattle.term_pool.specs.StandsFor.{let_tree}
use Rattle.term_pool.specs.Trees.{IsCellTree}
use Rattle.term_pool.specs.TreeLists.{list_length}

-- the shape of a term that is leaf k and stands for the symbol l
abbrev pub leaf_shape : ℕ → Leaf → Shape
leaf_shape k Leaf.nil = Shape.App k 0
leaf_shape k Leaf.let_head = Shape.App k 0
leaf_shape k (operator op) = Shape.App k 0
leaf_shape k (function name arguments target) = Shape.App k 0
leaf_shape k (Leaf.variable name sort) = Shape.Var k
leaf_shape k (Leaf.numeral n) = Shape.Num n

-- the first part of a cell
abbrev pub first_part : Tree → Tree
first_part (leaf k) = leaf k
first_part (cell a b) = a

-- the shape of a term that is the cell of leaf k and a rest
abbrev pub cell_shape : ℕ → Tree → Shape
cell_shape k rest =
    if k == 1 then Shape.LetTerm (list_length (first_part rest)) else Shape.App k (list_length rest)

-- r is known as a cell, and where its first part is the head of a let, its second part is a cell
pub record IsTermCell (pass : PassView) (r : ℕ) : Type 0 where
  pub head : Tree
  pub rest : Tree
  pub stands : Knows pass r (cell head rest)
  pub let_rest : head ≡ let_tree → IsCellTree rest
