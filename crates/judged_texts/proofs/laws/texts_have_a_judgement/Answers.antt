-- Each text has its form or a fault of it; the commands have statuses, and these a verdict.
use Rattle.judged_texts.proofs.SomeJudgement.{some_judgement}
use Rattle.judged_texts.proofs.laws.texts_have_a_judgement.Goals as goal

pub returns : goal.returns
returns c =
    let p = c.form-problem_form.ensures in
    let q = c.form-proof_form.ensures in
    some_judgement c.args.problem.now c.args.options c.args.proof.now c.texts_have_one_reading.ensures.judged c.proof_texts_have_one_reading.ensures.judged
    _ _ p.formed p.fault q.formed q.fault
