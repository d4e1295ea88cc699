use Rattle.std.proofs.Common.{◌∙◌, ap, sym}
use Rattle.rule_model.specs.Statuses.{kind_of_rule}
use Rattle.step_check.specs.Statuses.{checking}
use Rattle.step_check.proofs.StatusLemmas.{assume_passes, assume_fails}
use Rattle.step_check.proofs.steps.status_of_assume.Goals as goal

pub returns-then-branch-clause-status : goal.returns-then-branch-clause-status
returns-then-branch-clause-status c of qs stand all =
    let flags = c.args.subject.now.flags in
    let rule = sym (c.commands_correspond.ensures.rule c.args.subject.now.symbols.now c.args.terms.now c.args.subject.now.proof.now of c.args.i stand) ∙ c.requires.assume in
    assume_passes flags qs of c.args.i (ap (kind_of_rule (checking flags qs)) rule) ((c.in_ok-may_assume.ensures.may of qs stand all).0 c.if-branch.true)

pub returns-else-branch-clause-status : goal.returns-else-branch-clause-status
returns-else-branch-clause-status c of qs stand all =
    let flags = c.args.subject.now.flags in
    let rule = sym (c.commands_correspond.ensures.rule c.args.subject.now.symbols.now c.args.terms.now c.args.subject.now.proof.now of c.args.i stand) ∙ c.requires.assume in
    assume_fails flags qs of c.args.i (ap (kind_of_rule (checking flags qs)) rule)
    (λ may. let clash = sym c.if-branch.false ∙ (c.in_ok-may_assume.ensures.may of qs stand all).1 may in cc)
