use Rattle.known_args.proofs.RowLemmas.{row_arguments, row_last, row_kept, row_read}
use Rattle.known_args.proofs.memory.KnownArgs.place.Goals as goal

pub returns-then-is_of-clause-arguments : goal.returns-then-is_of-clause-arguments
returns-then-is_of-clause-arguments c =
    row_arguments c.args.terms.now c.one_to_one.ensures c.args.r c.args.self.now.last.1
    (row_last c.args.terms.now c.args.self.now.last c.args.self.now.kept.items c.requires.right c.args.r (c.is_of.ensures.0 c.if-is_of.true))

pub returns-in-Some-clause-arguments : goal.returns-in-Some-clause-arguments
returns-in-Some-clause-arguments c =
    row_arguments c.args.terms.now c.one_to_one.ensures c.args.r _
    (row_kept c.args.terms.now c.args.self.now.last c.args.self.now.kept.items c.requires.right c.in-Some.number c.args.r c.in-Some.ensures)

pub returns-clause-arguments : goal.returns-clause-arguments
returns-clause-arguments c =
    row_arguments c.args.terms.now c.one_to_one.ensures c.args.r c.in_ok-self.field-0.1 c.in_ok-self.ensures.row

pub returns-clause-right : goal.returns-clause-right
returns-clause-right c =
    row_read c.args.terms.now c.free_list.new.self.last c.free_list.new.self.kept.items (c.in_ok-list.ensures.right c.args.terms.now c.requires.right)
    c.in_ok-self.field-0 c.args.r c.in_ok-self.ensures.of c.in_ok-self.ensures.row
