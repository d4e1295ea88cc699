-- Private.
use Rattle.std.proofs.Common.{◌≡◌, ℕ, List, Option, Some, None, refl, ap, sym}
use Rattle.file_ports.specs.Texts.{AreTold}
use Rattle.carcara_cli.specs.declared.answer.Answer.TheVariants.{Judged}
use Rattle.judged_texts.specs.declared.judgement.Judgement.TheVariants.{Valid}
use Rattle.mode_laws.specs.Modes.{asked_in_check_mode}
use Rattle.mode_laws.proofs.laws.runs_agree.Goals as goal

told_some : (told : Option (List ℕ)) (bytes : List ℕ) → (told ≡ None → ⊥) → AreTold told bytes → told ≡ Some bytes
told_some None bytes some is = absurd (some refl)
told_some (Some others) bytes some is = ap Some (sym is)

pub returns-clause-defined : goal.returns-clause-defined
returns-clause-defined c = λ bits content asked defined reads.
    let d = defined.answers in
    let text = told_some (content asked.problem) d.problem_text defined.told.0 d.problem_told in
    let proof = told_some (content asked.proof) d.proof_text defined.told.1 d.proof_told in
    let checked = d.judged in
    let other = reads d.problem_text d.proof_text text proof checked.script checked.commands checked.after checked.problem_text checked.proof_text in
    record {
      told = defined.told;
      answers = record {
        problem_text = d.problem_text;
        proof_text = d.proof_text;
        problem_told = d.problem_told;
        proof_told = d.proof_told;
        problem_within = d.problem_within;
        proof_within = d.proof_within;
        judged = c.valid_strictly_is_valid.ensures d.problem_text asked.options d.proof_text checked other.others other.after other.proof_text other.same;
      };
      has_room = defined.has_room;
    }

pub returns-clause-same : goal.returns-clause-same
returns-clause-same c = λ bits content asked a strict reads loose.
    c.words_and_files_define_one_answer.ensures bits content (asked_in_check_mode asked) a (Judged Valid) loose
    (returns-clause-defined c bits content asked strict reads)
