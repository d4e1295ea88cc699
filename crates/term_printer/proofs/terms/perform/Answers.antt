use Rattle.std.proofs.Common.{subst}
use Rattle.std.proofs.lemmas.Result.{on_ok_weaker}
use Rattle.term_printer.specs.Pages.{IsTask}
use Rattle.term_printer.proofs.SingleTasks.{body_performs, close_performs, end_performs}
use Rattle.term_printer.proofs.terms.perform.Goals as goal

pub returns-in-Body-clause-performs : goal.returns-in-Body-clause-performs
returns-in-Body-clause-performs c =
    on_ok_weaker c.print_body.result (λ h plan p is.
    body_performs plan c.args.symbols.now c.args.terms.now c.args.page.now c.print_body.new.page c.args.task _ c.in-Body.body p
    c.in-Body.is is h.0 h.1 c.print_body.ensures.names)
    c.print_body.ensures.begun

pub returns-in-Close-clause-performs : goal.returns-in-Close-clause-performs
returns-in-Close-clause-performs c =
    on_ok_weaker c.put.result (λ text plan p is.
    close_performs plan c.args.symbols.now c.args.terms.now c.args.page.now c.put.new.self p
    (subst (λ task. IsTask plan c.args.symbols.now c.args.terms.now task p) c.in-Close.is is) text c.put.ensures.tasks
    c.put.ensures.names) c.put.ensures.text

pub returns-in-End-clause-performs : goal.returns-in-End-clause-performs
returns-in-End-clause-performs c =
    on_ok_weaker c.put-in-End.result (λ text plan p is.
    end_performs plan c.args.symbols.now c.args.terms.now c.args.page.now c.put-in-End.new.self p
    (subst (λ task. IsTask plan c.args.symbols.now c.args.terms.now task p) c.in-End.is is) text c.put-in-End.ensures.tasks
    c.put-in-End.ensures.names) c.put-in-End.ensures.text
