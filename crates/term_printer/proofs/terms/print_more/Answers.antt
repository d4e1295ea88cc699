use Rattle.std.proofs.Common.{sym, refl, subst}
use Rattle.term_printer.specs.Pages.{ComesTo}
use Rattle.term_printer.proofs.Turns.{some_last, turn, goes_further}
use Rattle.term_printer.proofs.terms.print_more.Goals as goal

pub perform-requires : goal.perform-requires
perform-requires c =
    some_last c.args.symbols.now c.args.terms.now c.args.page.now c.pop.new.self.items c.in-Some.task c.requires c.in-Some.ensures.items

pub returns-clause-left : goal.returns-clause-left
returns-clause-left c = λ plan bytes end h.
    subst (λ v. ComesTo plan c.args.symbols.now v c.perform.new.page bytes end) (sym c.in_ok-perform.ensures.same)
    (turn plan c.args.symbols.now c.args.terms.now c.args.page.now (record c.args.page.now { tasks = c.pop.new.self }) c.perform.new.page
    c.in-Some.task bytes end h c.in-Some.ensures.items refl refl (c.in_ok-perform.ensures.performs plan))

pub returns-clause-further : goal.returns-clause-further
returns-clause-further c = λ found.
    goes_further c.args.symbols.now c.args.terms.now c.args.page.now (record c.args.page.now { tasks = c.pop.new.self }) c.perform.new.page
    c.in-Some.task c.requires c.in-Some.ensures.items refl refl c.in_ok-perform.ensures.performs
