use Rattle.std.proofs.Common.{◌<◌, ◌^◌, ◌∙◌, length, sym, subst, refl}
use Rattle.pair_pool.specs.Trees.{leaf}
use Rattle.sym_table.specs.Leaf.{Leaf}
use Rattle.term_pool.specs.StandsFor.{StandsFor}
use Rattle.term_walk.specs.Walks.{IsAppliedAt}
use Rattle.term_walk.proofs.Pieces.{is_low, is_high}
use Rattle.term_walk.proofs.Cells.{leaf_within, term_within, known_cell, leaf_stands, cell_application, cell_let, let_known, let_parts}
use Rattle.term_walk.proofs.tops.top_of.Goals as goal

pub returns-then-is_leaf-clause-top : goal.returns-then-is_leaf-clause-top
returns-then-is_leaf-clause-top c = λ t h.
    let low = is_low c.is_leaf.result c.args.r (2 ^ 30) c.if-is_leaf.true c.is_leaf.ensures.0 in (
      c.number.ensures.number,
      low,
      subst (λ k. StandsFor c.args.symbols.now (leaf k) t) (sym c.number.ensures.number)
          (leaf_stands c.args.terms.now c.one_to_one.ensures c.parts_of_trees.ensures c.args.symbols.now c.args.r t h low),
    )

pub returns-then-is_leaf-clause-leaf : goal.returns-then-is_leaf-clause-leaf
returns-then-is_leaf-clause-leaf c =
    subst (λ k. k < length c.args.symbols.now.leaves) (sym c.number.ensures.number)
    (term_within c.args.symbols.now c.args.r c.requires.means
    (leaf_stands c.args.terms.now c.one_to_one.ensures c.parts_of_trees.ensures c.args.symbols.now c.args.r c.requires.means c.requires.refers
    (is_low c.is_leaf.result c.args.r (2 ^ 30) c.if-is_leaf.true c.is_leaf.ensures.0)))

pub cell_parts-head-requires : goal.cell_parts-head-requires
cell_parts-head-requires c =
    known_cell c.args.terms.now c.one_to_one.ensures c.parts_of_trees.ensures c.args.r c.requires.refers.tree c.requires.refers.known
    (is_high c.is_leaf.result c.args.r (2 ^ 30) c.if-is_leaf.false c.is_leaf.ensures.1)

pub returns-then-leaf-ne-LET-clause-top : goal.returns-then-leaf-ne-LET-clause-top
returns-then-leaf-ne-LET-clause-top c = λ t h.
    subst (λ k. IsAppliedAt c.args.symbols.now c.args.terms.now k c.cell_parts-head.result.1 t) (sym c.number-leaf.ensures.number)
    (cell_application c.args.terms.now c.one_to_one.ensures c.parts_of_trees.ensures c.args.symbols.now c.args.r c.cell_parts-head.result.0
    c.cell_parts-head.result.1 t (is_high c.is_leaf.result c.args.r (2 ^ 30) c.if-is_leaf.false c.is_leaf.ensures.1) h
    (record { first = c.cell_parts-head.ensures.first; second = c.cell_parts-head.ensures.second })
    (λ e. c.if-leaf-ne-LET.true (c.number-leaf.ensures.number ∙ e)))

pub returns-then-leaf-ne-LET-clause-leaf : goal.returns-then-leaf-ne-LET-clause-leaf
returns-then-leaf-ne-LET-clause-leaf c =
    let h = returns-then-leaf-ne-LET-clause-top c c.requires.means c.requires.refers in
    leaf_within c.args.symbols.now c.number-leaf.result h.symbol h.leaf_is

pub cell_parts-list-requires : goal.cell_parts-list-requires
cell_parts-list-requires c =
    rw c.cell_parts-head.ensures.same (let_known c.args.terms.now c.one_to_one.ensures c.parts_of_trees.ensures c.args.symbols.now
    c.cell_parts-head.result.1 c.requires.means
    (cell_let c.args.terms.now c.one_to_one.ensures c.parts_of_trees.ensures c.args.symbols.now c.args.r c.cell_parts-head.result.0
    c.cell_parts-head.result.1 c.requires.means (is_high c.is_leaf.result c.args.r (2 ^ 30) c.if-is_leaf.false c.is_leaf.ensures.1) c.requires.refers
    (record { first = c.cell_parts-head.ensures.first; second = c.cell_parts-head.ensures.second })
    (sym c.number-leaf.ensures.number ∙ c.if-leaf-ne-LET.false) (c.leaves_differ.ensures.table.begins 1 Leaf.let_head refl)))

pub returns-clause-top : goal.returns-clause-top
returns-clause-top c = λ t h.
    let_parts c.args.terms.now c.one_to_one.ensures c.parts_of_trees.ensures c.args.symbols.now c.cell_parts-head.result.1
    c.cell_parts-list.result.0 c.cell_parts-list.result.1 t
    (cell_let c.args.terms.now c.one_to_one.ensures c.parts_of_trees.ensures c.args.symbols.now c.args.r c.cell_parts-head.result.0
    c.cell_parts-head.result.1 t (is_high c.is_leaf.result c.args.r (2 ^ 30) c.if-is_leaf.false c.is_leaf.ensures.1) h
    (record { first = c.cell_parts-head.ensures.first; second = c.cell_parts-head.ensures.second })
    (sym c.number-leaf.ensures.number ∙ c.if-leaf-ne-LET.false) (c.leaves_differ.ensures.table.begins 1 Leaf.let_head refl))
    (record {
      first = rw c.cell_parts-head.ensures.same at c.cell_parts-list.ensures.first;
      second = rw c.cell_parts-head.ensures.same at c.cell_parts-list.ensures.second;
    })
