use Rattle.std.proofs.Common.{◌^◌, sym, subst}
use Rattle.term_pool.specs.StandsFor.{variable_leaf}
use Rattle.term_walk.specs.Walks.{IsBindingAt}
use Rattle.term_walk.proofs.Pieces.{is_low, is_high}
use Rattle.term_walk.proofs.Cells.{leaf_within, known_cell, no_pairs, first_pair, pair_known, has_binding}
use Rattle.term_walk.proofs.lists.first_binding.Goals as goal

pub cell_parts-pair-requires : goal.cell_parts-pair-requires
cell_parts-pair-requires c =
    known_cell c.args.terms.now c.one_to_one.ensures c.parts_of_trees.ensures c.args.list c.requires.are.tree c.requires.are.known
    (is_high c.is_leaf.result c.args.list (2 ^ 30) c.if-is_leaf.false c.is_leaf.ensures.1)

pub cell_parts-variable-requires : goal.cell_parts-variable-requires
cell_parts-variable-requires c =
    rw c.cell_parts-pair.ensures.same (pair_known c.args.terms.now c.one_to_one.ensures c.parts_of_trees.ensures c.args.symbols.now
    c.cell_parts-pair.result.0 c.cell_parts-pair.result.1 c.requires.bindings
    (first_pair c.args.terms.now c.one_to_one.ensures c.parts_of_trees.ensures c.args.symbols.now c.args.list c.cell_parts-pair.result.0
    c.cell_parts-pair.result.1 c.requires.bindings (is_high c.is_leaf.result c.args.list (2 ^ 30) c.if-is_leaf.false c.is_leaf.ensures.1)
    c.requires.are (record { first = c.cell_parts-pair.ensures.first; second = c.cell_parts-pair.ensures.second })))

pub returns-then-is_leaf-clause-first : goal.returns-then-is_leaf-clause-first
returns-then-is_leaf-clause-first c = λ bs h.
    no_pairs c.args.terms.now c.one_to_one.ensures c.parts_of_trees.ensures c.args.symbols.now c.args.list bs
    (is_low c.is_leaf.result c.args.list (2 ^ 30) c.if-is_leaf.true c.is_leaf.ensures.0) h

pub returns-clause-first : goal.returns-clause-first
returns-clause-first c = λ bs h.
    subst (λ k. IsBindingAt c.args.symbols.now c.args.terms.now k c.cell_parts-variable.result.1 c.cell_parts-pair.result.1 bs)
    (sym c.number.ensures.number)
    (has_binding c.args.terms.now c.one_to_one.ensures c.parts_of_trees.ensures c.args.symbols.now c.cell_parts-pair.result.0
    c.cell_parts-pair.result.1 c.cell_parts-variable.result.0 c.cell_parts-variable.result.1 bs
    (first_pair c.args.terms.now c.one_to_one.ensures c.parts_of_trees.ensures c.args.symbols.now c.args.list c.cell_parts-pair.result.0
    c.cell_parts-pair.result.1 bs (is_high c.is_leaf.result c.args.list (2 ^ 30) c.if-is_leaf.false c.is_leaf.ensures.1) h
    (record { first = c.cell_parts-pair.ensures.first; second = c.cell_parts-pair.ensures.second }))
    (record {
      first = rw c.cell_parts-pair.ensures.same at c.cell_parts-variable.ensures.first;
      second = rw c.cell_parts-pair.ensures.same at c.cell_parts-variable.ensures.second;
    }))

pub returns-clause-leaf : goal.returns-clause-leaf
returns-clause-leaf c =
    let h = returns-clause-first c c.requires.bindings c.requires.are in
    leaf_within c.args.symbols.now c.number.result (variable_leaf h.bound) h.leaf_is
