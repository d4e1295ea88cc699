use Rattle.std.proofs.Common.{subst}
use Rattle.std.proofs.lemmas.Result.{on_ok_weaker}
use Rattle.alethe_printer.specs.Stages.{StandsFor}
use Rattle.alethe_printer.proofs.LastParts.{truth_does, close_does, discharged_does, line_ends}
use Rattle.alethe_printer.proofs.performing.perform.Goals as goal

pub returns-in-Truth : goal.returns-in-Truth
returns-in-Truth c =
    on_ok_weaker c.print_truth.result (λ text plan v p h u sorts given.
    truth_does plan c.args.symbols.now v c.args.proof.now c.args.page.now c.print_truth.new.page c.args.stages.now.items
    (record { none = c.requires.nothing_left; tasks = c.print_truth.ensures.tasks; names = c.print_truth.ensures.names }) c.in-Truth.truth p u given
    (subst (λ x. StandsFor c.args.symbols.now v c.args.proof.now x p) c.in-Truth.is h) text)
    c.print_truth.ensures.text

pub returns-in-Close : goal.returns-in-Close
returns-in-Close c =
    on_ok_weaker c.put.result (λ text plan v p h u sorts given.
    close_does plan c.args.symbols.now v c.args.proof.now c.args.page.now c.put.new.self c.args.stages.now.items
    (record { none = c.requires.nothing_left; tasks = c.put.ensures.tasks; names = c.put.ensures.names }) p u given (subst
    (λ x. StandsFor c.args.symbols.now v c.args.proof.now x p) c.in-Close.is h) text) c.put.ensures.text

pub returns-in-Discharged : goal.returns-in-Discharged
returns-in-Discharged c =
    on_ok_weaker c.print_discharged.result (λ text plan v p h u sorts given.
    discharged_does plan c.args.symbols.now v c.args.proof.now c.args.page.now c.print_discharged.new.page c.args.stages.now.items
    (record { none = c.requires.nothing_left; tasks = c.print_discharged.ensures.tasks; names = c.print_discharged.ensures.names })
    c.in-Discharged.command p u given
    (subst (λ x. StandsFor c.args.symbols.now v c.args.proof.now x p) c.in-Discharged.is h) text) c.print_discharged.ensures.text

pub returns-in-EndLine : goal.returns-in-EndLine
returns-in-EndLine c =
    on_ok_weaker c.put-in-EndLine.result (λ text plan v p h u sorts given.
    line_ends plan c.args.symbols.now v c.args.proof.now c.args.page.now c.put-in-EndLine.new.self c.args.stages.now.items
    (record { none = c.requires.nothing_left; tasks = c.put-in-EndLine.ensures.tasks; names = c.put-in-EndLine.ensures.names }) p u given (subst
    (λ x. StandsFor c.args.symbols.now v c.args.proof.now x p) c.in-EndLine.is h) text)
    c.put-in-EndLine.ensures.text
