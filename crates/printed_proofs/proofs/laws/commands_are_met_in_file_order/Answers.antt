use Rattle.std.proofs.Common.{[], sym, ap, ◌∙◌}
use Rattle.std.proofs.lemmas.List.{append-nil}
use Rattle.rule_model.specs.Commands.{lines_in}
use Rattle.rule_model.specs.Scopes.{outermost}
use Rattle.printed_proofs.specs.FileOrder.{file_order, scope_events}
use Rattle.printed_proofs.proofs.EventItems.{scope_printed}
use Rattle.printed_proofs.proofs.InFileOrder.{in_file_order}
use Rattle.printed_proofs.proofs.laws.commands_are_met_in_file_order.Goals as goal

pub returns-clause-order : goal.returns-clause-order
returns-clause-order c = λ proof.
    ap (file_order 0) (sym (append-nil (lines_in outermost proof)))
    ∙ (in_file_order outermost proof [] ∙ append-nil (scope_events outermost proof))

pub returns-clause-items : goal.returns-clause-items
returns-clause-items c = λ closed_by plan s proof closed. (scope_printed closed_by plan proof outermost s closed).items
