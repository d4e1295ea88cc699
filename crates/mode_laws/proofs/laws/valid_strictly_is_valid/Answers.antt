-- Private.
use Rattle.std.proofs.Common.{sym}
use Rattle.rule_model.specs.declared.statuses.Verdict.{Verdict}
use Rattle.judged_texts.specs.Reading.{checking_of}
use Rattle.mode_laws.specs.Modes.{strictly}
use Rattle.mode_laws.proofs.laws.valid_strictly_is_valid.Goals as goal

pub returns : goal.returns
returns c = λ problem options proof checked commands after stands same.
    let asked = checking_of (strictly options) checked.script.assertions in
    let loose = c.strictly_met_is_met.ensures.valid asked checked.commands checked.statuses checked.verdict checked.are in
    record {
      script = checked.script;
      commands = commands;
      after = after;
      statuses = checked.statuses;
      problem_text = checked.problem_text;
      proof_text = stands;
      are = c.pivots_do_not_matter_in_check_mode.ensures.statuses asked checked.commands commands checked.statuses (sym same) loose;
      verdict = c.pivots_do_not_matter_in_check_mode.ensures.verdict checked.commands commands checked.statuses Verdict.Valid (sym same) checked.verdict;
    }
