use Rattle.std.proofs.Common.{◌≡◌, subst}
use Rattle.rule_model.specs.declared.kinds.Kind.{Kind}
use Rattle.rule_model.specs.RuleNames.{kind_of}
use Rattle.step_check.proofs.StatusLemmas.{judged_status}
use Rattle.step_check.proofs.steps.status_of_step.Goals as goal

pub returns-clause-status : goal.returns-clause-status
returns-clause-status c asserted of ts stand all =
    let family = c.args.family in
    let flags = c.args.subject.now.flags in
    let same = c.commands_correspond.ensures.rule c.args.subject.now.symbols.now c.args.terms.now c.args.subject.now.proof.now of c.args.i stand in
    judged_status flags ts of c.args.i family c.in_ok-answer.answer c.status_of.result (subst (λ rule. kind_of rule ≡ Kind.Judged family) same c.requires.family) c.status_of.ensures
    (rw c.mode_of.ensures at (c.in_ok-answer.ensures.met of stand))
