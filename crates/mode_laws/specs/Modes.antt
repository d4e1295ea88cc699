-- Public. The same options in each mode, and a proof's text that reads the same in both.
use Rattle.std.specs.Prelude.{◌≡◌, ℕ, List, true, false, Option, Some}
use Rattle.term_model.specs.Terms.{Var, Term}
use Rattle.rule_model.specs.LeftOut.{IsSameUpToPivots}
use Rattle.rule_model.specs.Proofs.{ProofItems}
use Rattle.problem_text.specs.Problems.{StandsForProblem}
use Rattle.problem_text.specs.Scripts.{Script}
use Rattle.alethe_text.specs.ProofTexts.{StandsForProof}
use Rattle.command_words.specs.declared.request.Options.{Options}
use Rattle.command_words.specs.CommandLine.{Asked}
use Rattle.judged_texts.specs.Reading.{settings_of}

-- the same options with `--strict`, and without it
abbrev pub strictly : Options → Options
strictly options = record options { is_strict = true }

abbrev pub in_check_mode : Options → Options
in_check_mode options = record options { is_strict = false }

-- the same check with `--strict`, and without it
abbrev pub asked_strictly : Asked → Asked
asked_strictly asked = record asked { options = strictly asked.options }

abbrev pub asked_in_check_mode : Asked → Asked
asked_in_check_mode asked = record asked { options = in_check_mode asked.options }

-- behind a script, the text stands in check mode for a proof that differs in pivots alone
pub record StandsInCheckMode (options : Options) (proof : List ℕ) (script : Script) (commands : ProofItems Var Term) : Type 0 where
  pub others : ProofItems Var Term
  pub after : Script
  pub proof_text : StandsForProof proof (settings_of (in_check_mode options)) script others after
  pub same : IsSameUpToPivots others commands

-- Behind the problem's text, whatever the proof's text stands for in strict mode, it stands in check mode for a proof that
-- differs in pivots alone.
abbrev pub ReadsSameInCheckMode : List ℕ → Options → List ℕ → Type 0
ReadsSameInCheckMode problem options proof =
    (script : Script) (commands : ProofItems Var Term) (after : Script) → StandsForProblem problem options.replaces_lets script →
    StandsForProof proof (settings_of (strictly options)) script commands after → StandsInCheckMode options proof script commands

-- the same of the two files that are asked for, where both are told
abbrev pub FilesReadSameInCheckMode : (List ℕ → Option (List ℕ)) → Asked → Type 0
FilesReadSameInCheckMode content asked =
    (problem proof : List ℕ) → content asked.problem ≡ Some problem → content asked.proof ≡ Some proof →
    ReadsSameInCheckMode problem asked.options proof
