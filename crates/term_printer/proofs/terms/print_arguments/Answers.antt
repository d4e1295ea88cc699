use Rattle.std.proofs.Common.{refl, sym, subst}
use Rattle.std.proofs.lemmas.Result.{on_ok_weaker}
use Rattle.term_walk.specs.Walks.{TakesArgument, PutsArgument}
use Rattle.term_printer.proofs.TermParts.{no_arguments, next_performs}
use Rattle.term_printer.proofs.terms.print_arguments.Goals as goal

pub returns-then-not-found-clause-performs : goal.returns-then-not-found-clause-performs
returns-then-not-found-clause-performs c = λ ts h plan.
    let takes = subst (λ f. TakesArgument f c.args.symbols.now c.args.terms.now c.args.page.now.tasks.items c.next_argument.new.tasks.items ts)
    c.if-not-found.true (c.in_ok-found.ensures.next ts h) in
    no_arguments plan c.args.symbols.now c.args.terms.now c.args.page.now (record c.args.page.now { tasks = c.next_argument.new.tasks }) ts takes.0
    refl takes.1 refl

pub returns-clause-performs : goal.returns-clause-performs
returns-clause-performs c =
    on_ok_weaker c.put.result (λ text ts h plan.
    next_performs plan c.args.symbols.now c.args.terms.now c.args.page.now c.put.new.self ts
    (subst (λ ks. PutsArgument c.args.symbols.now c.args.terms.now c.args.page.now.tasks.items ks ts) (sym c.put.ensures.tasks)
    (subst (λ f. TakesArgument f c.args.symbols.now c.args.terms.now c.args.page.now.tasks.items c.next_argument.new.tasks.items ts)
    c.if-not-found.false (c.in_ok-found.ensures.next ts h))) text c.put.ensures.names) c.put.ensures.text
