use Rattle.std.proofs.Common.{◌++◌, ◌∙◌, ap, sym}
use Rattle.std.proofs.lemmas.Result.{on_ok_weaker}
use Rattle.hole_questions.proofs.PlainNames.{function_plain}
use Rattle.hole_questions.proofs.writer.push_function.Goals as goal

pub returns : goal.returns
returns c =
    on_ok_weaker c.push_name.result (λ text. text ∙ ap (λ b. c.args.text.now.items ++ b) (sym (function_plain c.args.place c.requires))) c.push_name.ensures
