use Rattle.std.proofs.Common.{◌∙◌}
use Rattle.term_sharing.proofs.ClosedTerms.{cell_closed}
use Rattle.term_sharing.proofs.uses.is_closed_below.Goals as goal

pub are_closed-requires : goal.are_closed-requires
are_closed-requires c = rw (c.in_ok-parts.ensures.same ∙ c.is_let.ensures.same) c.requires.marks

pub returns-clause-closed : goal.returns-clause-closed
returns-clause-closed c = λ closed t refers.
    let is = c.is_let.ensures.no c.if-is_let.false c.args.symbols.now t c.leaves_differ.ensures.table refers in
    let all = c.are_closed.ensures closed in
    cell_closed c.args.symbols.now c.args.terms.now c.one_to_one.ensures c.parts_of_trees.ensures c.args.r t c.in_ok-parts.parts.items c.requires.cell refers is
    ((rw c.is_let.ensures.same at c.in_ok-parts.ensures.arguments) c.args.symbols.now t refers is)
    (rw (c.in_ok-parts.ensures.same ∙ c.is_let.ensures.same, c.deref.ensures.value) at all)
