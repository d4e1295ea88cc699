use Rattle.rule_model.specs.Scopes.{outermost}
use Rattle.printed_proofs.specs.PrintedProof.{proof_items}
use Rattle.alethe_printer.specs.Places.{closing_index}
use Rattle.alethe_printer.proofs.Meeting.{closed_by_index}
use Rattle.alethe_printer.proofs.Pages.{names_same}
use Rattle.alethe_printer.proofs.Turning.{nothing_yet}
use Rattle.alethe_printer.proofs.printing.begin.Goals as goal

pub returns : goal.returns
returns c = λ s v refs plan script of sorts given stand.
    nothing_yet plan s v refs of c.new.result c.new-2.result.items script (proof_items plan script of) c.new.ensures.text c.new.ensures.tasks
    c.new-2.ensures.items (names_same plan s v c.new.result.names c.args.names script.taken c.new.ensures.names given) sorts
    (c.commands_are_met_in_file_order.ensures.items (closing_index outermost of) plan script of (closed_by_index of))
