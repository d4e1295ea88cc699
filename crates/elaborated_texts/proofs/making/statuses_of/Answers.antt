use Rattle.std.proofs.Common.{◌∙◌, ap, subst, sym}
use Rattle.step_check.specs.Chunks.{statuses_in}
use Rattle.step_check.specs.Statuses.{AreStatusesOf}
use Rattle.elaborated_texts.proofs.making.statuses_of.Goals as goal

pub returns-clause-statuses : goal.returns-clause-statuses
returns-clause-statuses g c =
    let job = c.args.job.now in
    subst (AreStatusesOf job.flags job.symbols.now c.args.terms.now job.problem.now.assertions job.proof.now)
    (sym (c.in-Ok-joined.ensures ∙ ap statuses_in c.deref.ensures.value)) c.in-Ok.ensures.statuses
