use Rattle.std.proofs.Common.{refl, subst}
use Rattle.std.proofs.lemmas.Result.{on_ok_weaker}
use Rattle.term_walk.specs.Walks.{TakesArgument}
use Rattle.hole_questions.proofs.Performed.{no_arguments, next_performs}
use Rattle.hole_questions.proofs.walk.write_arguments.Goals as goal

pub returns-then-not-found-clause-performs : goal.returns-then-not-found-clause-performs
returns-then-not-found-clause-performs c = λ ts h.
    let takes = subst (λ f. TakesArgument f c.args.symbols.now c.args.terms.now c.args.tasks.now.items c.next_argument.new.tasks.items ts)
    c.if-not-found.true (c.in_ok-found.ensures.next ts h) in
    no_arguments c.args.symbols.now c.leaves_differ.ensures.table c.args.terms.now c.args.tasks.now.items c.next_argument.new.tasks.items
    c.args.writer.now c.args.writer.now ts takes.0 takes.1 refl

pub returns-clause-performs : goal.returns-clause-performs
returns-clause-performs c =
    on_ok_weaker c.put.result (λ space ts h.
    next_performs c.args.symbols.now c.leaves_differ.ensures.table c.args.terms.now c.args.tasks.now.items c.next_argument.new.tasks.items
    c.args.writer.now c.put.new.self ts
    (subst (λ f. TakesArgument f c.args.symbols.now c.args.terms.now c.args.tasks.now.items c.next_argument.new.tasks.items ts) c.if-not-found.false
    (c.in_ok-found.ensures.next ts h)) space) c.put.ensures
