use Rattle.std.proofs.Common.{inl, inr}
use Rattle.carcara_cli.specs.Outcomes.{answered}
use Rattle.carcara_cli.proofs.commands.check_files.Goals as goal

pub returns-in-Ok-clause-printed : goal.returns-in-Ok-clause-printed
returns-in-Ok-clause-printed g c = record {
  whole = λ no_fault no_want.
      let whole = c.report.ensures.whole no_fault no_want in
      record { outcome = answered c.in-Ok.answer; may_come = c.in-Ok.ensures; is_status = whole.0; printed = whole.1 };
  write_fault = λ six. record { outcome = answered c.in-Ok.answer; may_come = c.in-Ok.ensures; printed = c.report.ensures.prefix (inl six) };
  memory = λ seven. inl (record { outcome = answered c.in-Ok.answer; may_come = c.in-Ok.ensures; printed = c.report.ensures.prefix (inr seven) });
}
