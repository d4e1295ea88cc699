use Rattle.std.proofs.Common.{◌∙◌, ap, sym}
use Rattle.rule_model.specs.declared.kinds.Family.{Family}
use Rattle.rule_model.specs.RuleNames.{kind_of}
use Rattle.step_check.proofs.StatusLemmas.{judged_status}
use Rattle.step_check.proofs.steps.status_of_refl.Goals as goal

pub returns-in-Ok-clause-status : goal.returns-in-Ok-clause-status
returns-in-Ok-clause-status c asserted of ts stand all =
    let same = c.commands_correspond.ensures.rule c.args.subject.now.symbols.now c.args.terms.now c.args.subject.now.proof.now of c.args.i stand in
    judged_status c.args.subject.now.flags ts of c.args.i Family.Refl c.in-Ok.answer c.status_of.result (ap kind_of (sym same ∙ c.requires.refl)) c.status_of.ensures (c.in-Ok.ensures.met of stand)
