-- The answer that a judgement of the two files is, and what a valid one shows.
use Rattle.std.proofs.Common.{◌≡◌, ℕ, ◌≤◌, List, length, arith, Option, Some}
use Rattle.term_model.specs.Unsatisfiable.{Unsatisfiable}
use Rattle.rule_model.specs.declared.statuses.Verdict.{Verdict}
use Rattle.file_ports.specs.Texts.{AreTold}
use Rattle.command_words.specs.declared.request.Options.{Options}
use Rattle.command_words.specs.CommandLine.{Asked}
use Rattle.judged_texts.specs.declared.judgement.Judgement.{Judgement}
use Rattle.judged_texts.specs.declared.judgement.Judgement.TheVariants.{Valid, Holey, NoEmptyClause, Faulty, TooWide, RefusedProblem, RefusedProof, PoolFull}
use Rattle.judged_texts.specs.Judgement.{IsCheckedAs, IsJudgement}
use Rattle.judged_texts.specs.Reading.{most_bytes}
use Rattle.carcara_cli.specs.declared.answer.Answer.{Answer}
use Rattle.carcara_cli.specs.declared.answer.Answer.TheVariants.{Usage, ReadFault, TooLong, Judged}
use Rattle.carcara_cli.specs.Printed.{status_of}
use Rattle.carcara_cli.specs.TopCall.{IsJudgedOfFiles, IsAnswerTo, IsShownUnsatisfiable}

pub judged_of_files : (bits : ℕ) (options : Options) (x y : Option (List ℕ)) (problem proof : List ℕ) (j : Judgement)
    → AreTold x problem → AreTold y proof → length problem ≤ most_bytes → length proof ≤ most_bytes
    → IsJudgement problem options proof bits j → IsJudgedOfFiles bits options x y j
judged_of_files bits options x y problem proof j told told' within within' h = record {
  problem_text = problem;
  proof_text = proof;
  problem_told = told;
  proof_told = told';
  problem_within = within;
  proof_within = within';
  judged = h;
}

abbrev pub AreSound : Type 0
AreSound =
    (problem : List ℕ) (options : Options) (proof : List ℕ) (checked : IsCheckedAs problem options proof Verdict.Valid)
    → Unsatisfiable checked.script.assertions

module _ (sound : AreSound) where
  valid_told : (bits : ℕ) (options : Options) (x y : Option (List ℕ)) → IsJudgedOfFiles bits options x y Valid → IsShownUnsatisfiable options x y
  valid_told bits options x y h = record {
    problem_text = h.problem_text;
    proof_text = h.proof_text;
    problem_told = h.problem_told;
    proof_told = h.proof_told;
    script = h.judged.script;
    stands = h.judged.problem_text;
    unsatisfiable = sound h.problem_text options h.proof_text h.judged;
  }

  valid_shows_told : (bits : ℕ) (options : Options) (x y : Option (List ℕ)) (j : Judgement) → IsJudgedOfFiles bits options x y j → status_of (Judged j) ≡ 0
      → IsShownUnsatisfiable options x y
  valid_shows_told bits options x y Valid h e = valid_told bits options x y h
  valid_shows_told bits options x y NoEmptyClause h e = absurd (omega (arith, e))
  valid_shows_told bits options x y (Holey holes) h e = absurd (omega (arith, e))
  valid_shows_told bits options x y (Faulty id cause) h e = absurd (omega (arith, e))
  valid_shows_told bits options x y (TooWide id) h e = absurd (omega (arith, e))
  valid_shows_told bits options x y (RefusedProblem r) h e = absurd (omega (arith, e))
  valid_shows_told bits options x y (RefusedProof r) h e = absurd (omega (arith, e))
  valid_shows_told bits options x y PoolFull h e = absurd (omega (arith, e))

  pub valid_shows : (bits : ℕ) (content : List ℕ → Option (List ℕ)) (before after : ℕ) (p : Asked) (a : Answer)
      → IsAnswerTo bits content before after (Some p) a → status_of a ≡ 0 → IsShownUnsatisfiable p.options (content p.problem) (content p.proof)
  valid_shows bits content before after p (Judged j) h e = valid_shows_told bits p.options (content p.problem) (content p.proof) j h e
  valid_shows bits content before after p Usage h e = absurd (omega (arith, e))
  valid_shows bits content before after p ReadFault h e = absurd (omega (arith, e))
  valid_shows bits content before after p TooLong h e = absurd (omega (arith, e))
