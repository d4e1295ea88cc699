use Rattle.std.proofs.Common.{refl, sym, subst}
use Rattle.judged_texts.specs.declared.judgement.Judgement.TheVariants.{PoolFull}
use Rattle.filled_texts.specs.declared.filling.End.TheVariants as end
use Rattle.carcara_cli.specs.declared.answer.Answer.TheVariants.{Judged}
use Rattle.carcara_cli.specs.Outcomes.{answered}
use Rattle.filling_cli.specs.Ending.{ComesOf}
use Rattle.filling_cli.proofs.Coming.{nothing, says}
use Rattle.filling_cli.proofs.printing.report_stop.Goals as goal

pub returns-in-PoolFull-clause-printed : goal.returns-in-PoolFull-clause-printed
returns-in-PoolFull-clause-printed g c =
    says (ComesOf (end.Stopped c.args.stop)) (answered (Judged PoolFull))
    (subst (λ s. ComesOf (end.Stopped s) (answered (Judged PoolFull))) (sym c.in-PoolFull.is) refl) _ _ c.report.result
    c.report.ensures.whole c.report.ensures.prefix

pub returns-in-Memory-clause-printed : goal.returns-in-Memory-clause-printed
returns-in-Memory-clause-printed g c = nothing (ComesOf (end.Stopped c.args.stop)) _
