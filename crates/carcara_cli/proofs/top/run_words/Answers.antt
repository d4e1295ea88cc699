use Rattle.std.proofs.Common.{◌≡◌, None, inl, inr, refl, map, subst, string_bytes}
use Rattle.command_words.specs.CommandLine.{task_of}
use Rattle.command_words.specs.Requests.{told_task_of}
use Rattle.carcara_cli.specs.declared.answer.Answer.TheVariants.{Usage}
use Rattle.carcara_cli.specs.Outcomes.{answered}
use Rattle.carcara_cli.specs.TopCall.{IsOutcomeTo, IsPrinted}
use Rattle.carcara_cli.proofs.top.run_words.Goals as goal

pub returns-in-None-clause-printed : goal.returns-in-None-clause-printed
returns-in-None-clause-printed g c =
    let content = g.F.Folder.content c.args.folder.now in
    let faults = g.F.Folder.faults c.args.folder.now in
    let asked = task_of (map string_bytes c.args.words.now) in
    let before = g.S.Sink.written c.args.out.now in
    let after = g.S.Sink.written c.report.new.out in
    let named : told_task_of None ≡ asked = subst (λ r. told_task_of r ≡ asked) c.in-None.is c.in-Ok.ensures.asked in
    let usage : IsPrinted (IsOutcomeTo c.args.setting.now.most_bits content faults faults None) before after c.report.result = record {
      whole = λ no_fault no_want.
          let whole = c.report.ensures.whole no_fault no_want in
          record { outcome = answered Usage; may_come = refl; is_status = whole.0; printed = whole.1 };
      write_fault = λ six. record { outcome = answered Usage; may_come = refl; printed = c.report.ensures.prefix (inl six) };
      memory = λ seven. inl (record { outcome = answered Usage; may_come = refl; printed = c.report.ensures.prefix (inr seven) });
    } in
    subst (λ a. IsPrinted (IsOutcomeTo c.args.setting.now.most_bits content faults faults a) before after c.report.result) named usage
