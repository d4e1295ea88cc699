use Rattle.std.proofs.Common.{◌^◌, refl}
use Rattle.term_walk.proofs.Pieces.{is_low, is_high, two_more}
use Rattle.term_walk.proofs.Cells.{known_cell, no_arguments, has_argument}
use Rattle.term_walk.proofs.lists.next_argument.Goals as goal

pub cell_parts-first-requires : goal.cell_parts-first-requires
cell_parts-first-requires c =
    known_cell c.args.terms.now c.one_to_one.ensures c.parts_of_trees.ensures c.args.list c.requires.is.tree c.requires.is.known
    (is_high c.is_leaf.result c.args.list (2 ^ 30) c.if-is_leaf.false c.is_leaf.ensures.1)

pub returns-then-is_leaf-clause-next : goal.returns-then-is_leaf-clause-next
returns-then-is_leaf-clause-next c = λ ts h. (
  no_arguments c.args.terms.now c.one_to_one.ensures c.parts_of_trees.ensures c.args.symbols.now c.args.list ts
      (is_low c.is_leaf.result c.args.list (2 ^ 30) c.if-is_leaf.true c.is_leaf.ensures.0) h,
  refl,
)

pub returns-clause-next : goal.returns-clause-next
returns-clause-next c = λ ts h.
    has_argument c.args.terms.now c.one_to_one.ensures c.parts_of_trees.ensures c.args.symbols.now c.args.tasks.now.items c.push-2.new.self.items
    c.args.list c.cell_parts-first.result.0 c.cell_parts-first.result.1 ts
    (is_high c.is_leaf.result c.args.list (2 ^ 30) c.if-is_leaf.false c.is_leaf.ensures.1) h
    (record { first = c.cell_parts-first.ensures.first; second = c.cell_parts-first.ensures.second })
    (two_more c.args.tasks.now.items c.push.new.self.items c.push-2.new.self.items _ _ c.in_ok-push.ensures.items c.in_ok-push-2.ensures.items)
