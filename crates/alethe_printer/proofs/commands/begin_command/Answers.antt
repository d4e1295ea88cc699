use Rattle.std.proofs.Common.{◌∙◌, ap, sym}
use Rattle.std.proofs.lemmas.Result.{on_ok_weaker}
use Rattle.alethe_printer.proofs.Appended.{both_ok}
use Rattle.rule_model.specs.Reading.{is_assume}
use Rattle.alethe_printer.proofs.Lines.{assume_has_term, step_begun}
use Rattle.alethe_printer.proofs.commands.begin_command.Goals as goal

pub begin_assume-requires-clause-term : goal.begin_assume-requires-clause-term
begin_assume-requires-clause-term c =
    assume_has_term c.requires.command.table c.requires.command.view c.args.proof.now c.args.i c.requires.command.command
    (ap is_assume (sym c.rule.ensures ∙ c.in-Assume.is)) c.requires.command.is

pub returns-in_default : goal.returns-in_default
returns-in_default c =
    on_ok_weaker c.begin_step.result (λ h plan s v command u at given.
    step_begun s v c.args.proof.now c.args.i c.args.page.now c.begin_step.new.page c.args.stages.now.items c.begin_step.new.stages.items plan command u given
    c.requires.within (λ e. c.in_default.not-Assume (c.rule.ensures ∙ e)) at
    (record { none = c.requires.nothing_left; tasks = c.begin_step.ensures.tasks; names = c.begin_step.ensures.names }) h.0 h.1)
    (both_ok _ _ c.begin_step.result c.begin_step.ensures.text c.begin_step.ensures.stages)
