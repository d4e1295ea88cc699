use Rattle.std.proofs.Common.{inl, inr, refl, subst, sym, ap}
use Rattle.carcara_cli.specs.declared.answer.Answer.TheVariants.{Judged}
use Rattle.elaborated_texts.specs.declared.elaborating.End.TheVariants as end
use Rattle.named_proofs.specs.Written.{SinkView}
use Rattle.carcara_cli.specs.Finishing.{EndsBy}
use Rattle.carcara_cli.specs.Outcomes.{answered}
use Rattle.carcara_cli.specs.Printed.{status_of, text_of}
use Rattle.carcara_cli.proofs.Finishing.{finished, said}
use Rattle.carcara_cli.proofs.reporting.finish.Goals as goal

pub returns-in-Instead : goal.returns-in-Instead
returns-in-Instead g c = λ own problem options proof bits first ends.
    let before : SinkView = record { written = g.S.Sink.written c.args.out.now; faults = g.S.Sink.faults c.args.out.now } in
    let h : EndsBy own problem options proof bits first before (end.Instead c.in-Instead.judgement) =
    subst (EndsBy own problem options proof bits first before) c.in-Instead.is ends in
    said own problem options proof bits first _ _ (answered (Judged c.in-Instead.judgement)) (Judged c.in-Instead.judgement) c.report.result h.0 h.1 refl refl
    c.report.ensures.whole c.report.ensures.prefix c.report.ensures.failed

pub returns-in-Written : goal.returns-in-Written
returns-in-Written g c = λ own problem options proof bits first ends.
    finished own problem options proof bits first _ c.args.end c.in-Written.status ends (inl c.in-Written.is)

pub returns-in-Failed : goal.returns-in-Failed
returns-in-Failed g c = λ own problem options proof bits first ends.
    finished own problem options proof bits first _ c.args.end 6 ends (inr (inl (c.in-Failed.is, refl)))

pub returns-in-Memory : goal.returns-in-Memory
returns-in-Memory g c = λ own problem options proof bits first ends.
    finished own problem options proof bits first _ c.args.end 7 ends (inr (inr (c.in-Memory.is, refl)))
