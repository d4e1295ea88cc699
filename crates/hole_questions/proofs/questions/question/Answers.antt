use Rattle.std.proofs.Common.{◌≡◌, sym, Option, None, Some, IfNone}
use Rattle.hole_fillers.specs.Questions.{asserted_at}
use Rattle.hole_questions.proofs.DeclarationTexts.{asserts_too_long}
use Rattle.hole_questions.proofs.questions.question.Goals as goal

told_of_none : {A P : Type 0} (found : Option A) → found ≡ None → IfNone found P → P
told_of_none None e h = h
told_of_none (Some x) e h = absurd cc

pub returns-in-None-clause-question : goal.returns-in-None-clause-question
returns-in-None-clause-question c = λ of h.
    sym (asserts_too_long (asserted_at of c.args.i) (told_of_none c.in_ok-writer.field-0 c.in-None.is c.in_ok-writer.ensures.too_long of h))
