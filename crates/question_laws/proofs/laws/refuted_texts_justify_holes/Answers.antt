use Rattle.std.proofs.Common.{subst}
use Rattle.term_model.specs.Unsatisfiable.{Unsatisfiable}
use Rattle.question_laws.proofs.laws.refuted_texts_justify_holes.Goals as goal

pub returns : goal.returns
returns c = λ v assertions proof i text script formed sorted is_over is stands none.
    let back = c.questions_are_read_back.ensures v proof i text is_over is in
    c.refuted_questions_justify_holes.ensures assertions proof i formed sorted back.few (subst Unsatisfiable (back.terms script stands) none)
