use Rattle.judged_texts.specs.Judgement.{IsJudgement}
use Rattle.carcara_cli.proofs.AnswerLemmas.{judged_of_files}
use Rattle.carcara_cli.proofs.commands.answer_to.Goals as goal

pub returns : goal.returns
returns g c =
    let a = c.args.asked.now in
    let judged : IsJudgement c.in-Ok.files.problem.items a.options c.in-Ok.files.proof.items c.args.setting.now.most_bits c.in_ok-judgement.judgement =
    rw (← c.deref.ensures.value, ← c.deref-2.ensures.value) c.in_ok-judgement.ensures in
    judged_of_files _ _ _ _ _ _ _ c.in-Ok.ensures.problem c.in-Ok.ensures.proof c.in-Ok.ensures.problem_within c.in-Ok.ensures.proof_within judged
