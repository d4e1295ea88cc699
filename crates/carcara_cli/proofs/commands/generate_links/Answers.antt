use Rattle.std.proofs.Common.{inl, inr, refl, subst}
use Rattle.judged_texts.specs.Printed.{status_of_judgement}
use Rattle.generated_texts.specs.Generating.{ComesOfLinks}
use Rattle.generated_texts.specs.Summaries.{IsSummaryOfLinks, text_of_summary}
use Rattle.carcara_cli.specs.declared.answer.Answer.TheVariants.{Judged}
use Rattle.carcara_cli.specs.Outcomes.{Outcome, answered, printed}
use Rattle.carcara_cli.specs.TopCall.{GeneratesTo}
use Rattle.carcara_cli.proofs.commands.generate_links.Goals as goal

pub returns-in-Ok-Summed-clause-printed : goal.returns-in-Ok-Summed-clause-printed
returns-in-Ok-Summed-clause-printed g c =
    let summary = c.in-Ok-Summed.summary in
    let n = c.args.generation.links in
    let is : IsSummaryOfLinks n summary = subst (ComesOfLinks n c.args.setting.now.most_bits) c.in-Ok-Summed.field-0-is c.in-Ok-Summed.ensures in
    let o : Outcome = printed (status_of_judgement summary.judgement) (text_of_summary summary) in
    let may : GeneratesTo c.args.setting.now.most_bits n o = record { summary = summary; is = is; is_status = refl; is_text = refl } in
    record {
      whole = λ no_fault no_want.
          let whole = c.report_summary.ensures.whole no_fault no_want in
          record { outcome = o; may_come = may; is_status = whole.0; printed = whole.1 };
      write_fault = λ six. record { outcome = o; may_come = may; printed = c.report_summary.ensures.prefix (inl six) };
      memory = λ seven. inl (record { outcome = o; may_come = may; printed = c.report_summary.ensures.prefix (inr seven) });
    }

pub returns-in-Ok-Not-clause-printed : goal.returns-in-Ok-Not-clause-printed
returns-in-Ok-Not-clause-printed g c =
    let judgement = c.in-Ok-Not.judgement in
    let n = c.args.generation.links in
    let o : Outcome = answered (Judged judgement) in
    let may : GeneratesTo c.args.setting.now.most_bits n o = subst (ComesOfLinks n c.args.setting.now.most_bits) c.in-Ok-Not.field-0-is c.in-Ok-Not.ensures in
    record {
      whole = λ no_fault no_want.
          let whole = c.report.ensures.whole no_fault no_want in
          record { outcome = o; may_come = may; is_status = whole.0; printed = whole.1 };
      write_fault = λ six. record { outcome = o; may_come = may; printed = c.report.ensures.prefix (inl six) };
      memory = λ seven. inl (record { outcome = o; may_come = may; printed = c.report.ensures.prefix (inr seven) });
    }
