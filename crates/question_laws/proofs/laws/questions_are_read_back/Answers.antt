use Rattle.std.proofs.Common.{sym, subst, false}
use Rattle.problem_text.specs.Problems.{StandsForProblem}
use Rattle.hole_fillers.specs.Questions.{asserted_at, question_text}
use Rattle.question_laws.proofs.AskedProofs.{asked_good, within_is}
use Rattle.question_laws.proofs.laws.questions_are_read_back.Goals as goal

pub returns : goal.returns
returns c = λ v proof i text is_over is.
    let asserted = asserted_at proof i in
    let here = within_is (question_text asserted) text is in
    record {
      few = c.questions_have_few_names.ensures asserted here.short;
      terms = λ script stands.
          c.question_texts_are_read_back.ensures asserted script (asked_good v proof i is_over) here.short
          (subst (λ t. StandsForProblem t false script) (sym here.is) stands);
    }
