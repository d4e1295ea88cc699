use Rattle.std.proofs.Common.{ℕ, Bool, List, sym, subst}
use Rattle.std.specs.Prelude.{Contains}
use Rattle.term_model.specs.Terms.{Var, Fun, Term}
use Rattle.rule_model.specs.Proofs.{ProofItems}
use Rattle.problem_text.specs.Problems.{StandsForProblem}
use Rattle.problem_text.specs.Scripts.{Script}
use Rattle.problem_text.specs.Soundness.{IsSound}
use Rattle.alethe_text.specs.ProofTexts.{StandsForProof}
use Rattle.alethe_text.specs.States.{ProofSettings}
use Rattle.alethe_text.proofs.SymbolNames.{AreSpelled}
use Rattle.readable_proofs.specs.ProofsOver.{IsProofOver}
use Rattle.readable_proofs.proofs.ProofReadings.{IsGood}
use Rattle.readable_proofs.proofs.ReadNames.{words_of, Grows}
use Rattle.readable_proofs.proofs.ReadProofs.{text_over}
use Rattle.readable_proofs.proofs.ReadScripts.{problem_good}
use Rattle.readable_proofs.proofs.laws.proofs_are_over_their_names.Goals as goal

module _ (law : AreSpelled) (sound : (source : List ℕ) (replaces : Bool) (s : Script) → StandsForProblem source replaces s → IsSound s)
    (problem : List ℕ) (replaces : Bool) (before : Script) (source : List ℕ) (settings : ProofSettings) (proof : ProofItems Var Term) (after : Script)
    (h : StandsForProblem problem replaces before) (k : StandsForProof source settings before proof after) where
  all_read : IsGood after × Grows before after × IsProofOver (words_of after) proof
  all_read =
      text_over law source settings before proof after
      (record { script = (problem_good law problem replaces before h).good; sound = sound problem replaces before h }) k

pub returns-clause-proof : goal.returns-clause-proof
returns-clause-proof c = λ problem replaces before source settings proof after h k.
    let all = all_read c.tokens_are_spelled.ensures.spelled c.scripts_are_well_sorted.ensures problem replaces before source settings proof after h k in
    subst (λ (fs : List Fun). IsProofOver (record { functions = fs; variables = after.let_names }) proof) (sym all.1.functions) all.2

pub returns-clause-allowed : goal.returns-clause-allowed
returns-clause-allowed c = λ problem replaces before source settings proof after h k apart.
    let all = all_read c.tokens_are_spelled.ensures.spelled c.scripts_are_well_sorted.ensures problem replaces before source settings proof after h k in
    record {
      well = c.scripts_are_well_named.ensures.names problem replaces before h;
      own = all.0.script.own.names;
      apart = λ f there. apart f (subst (λ (fs : List Fun). Contains fs f) all.1.functions there);
    }
