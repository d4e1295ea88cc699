use Rattle.std.proofs.Common.{subst}
use Rattle.std.proofs.lemmas.Result.{IfOk-weaker}
use Rattle.rule_model.specs.Conditions.{IsMetAt, IsTooWideAt, MeetsWhere}
use Rattle.rule_model.specs.Judged.{judged_at}
use Rattle.term_parts.specs.Judging.{Tells}
use Rattle.step_check.proofs.judging.check.Goals as goal

pub returns-clause-sound : goal.returns-clause-sound
returns-clause-sound c =
    let mode = c.args.mode in
    let i = c.args.i in
    IfOk-weaker c.answer_at.result _ _ (λ answer told e of stand none I r sorted.
    let met = subst (λ a. Tells a (IsTooWideAt mode of i) (IsMetAt mode of i)) e (told of stand) in
    c.conditions_keep_truth.ensures (judged_at mode of i) (subst (MeetsWhere mode of i) none met.1) I r sorted) c.answer_at.ensures.met
