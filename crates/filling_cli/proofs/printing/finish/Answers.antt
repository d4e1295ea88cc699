use Rattle.std.proofs.Common.{refl, sym, subst}
use Rattle.filled_texts.specs.Printed.{status_of_asked, text_of_asked}
use Rattle.carcara_cli.specs.declared.answer.Answer.TheVariants.{Judged}
use Rattle.carcara_cli.specs.Outcomes.{answered, printed}
use Rattle.carcara_cli.specs.TopCall.{IsPrinted}
use Rattle.filling_cli.specs.Ending.{ComesOf}
use Rattle.filling_cli.proofs.Coming.{says}
use Rattle.filling_cli.proofs.printing.finish.Goals as goal

pub returns-in-Judged-clause-printed : goal.returns-in-Judged-clause-printed
returns-in-Judged-clause-printed g c =
    says (ComesOf c.args.end) (answered (Judged c.in-Judged.judgement))
    (subst (λ e. ComesOf e (answered (Judged c.in-Judged.judgement))) (sym c.in-Judged.is) refl) _ _ c.report.result
    c.report.ensures.whole c.report.ensures.prefix

pub returns-in-Asked-clause-printed : goal.returns-in-Asked-clause-printed
returns-in-Asked-clause-printed g c =
    let asked = c.in-Asked.asked in
    says (ComesOf c.args.end) (printed (status_of_asked asked) (text_of_asked asked))
    (subst (λ e. ComesOf e (printed (status_of_asked asked) (text_of_asked asked))) (sym c.in-Asked.is) refl) _ _ c.report_asked.result
    c.report_asked.ensures.whole c.report_asked.ensures.prefix

pub returns-in-Stopped-clause-printed : goal.returns-in-Stopped-clause-printed
returns-in-Stopped-clause-printed g c =
    subst (λ e. IsPrinted (ComesOf e) (g.S.Sink.written c.args.out.now) (g.S.Sink.written c.report_stop.new.out) c.report_stop.result) (sym c.in-Stopped.is)
    c.report_stop.ensures.printed
