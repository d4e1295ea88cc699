-- What two texts are checked as has one verdict, and a text with a verdict is not refused.
use Rattle.std.proofs.Common.{◌≡◌, ℕ, ◌<◌, Bool, List, length, get_or, sym, ◌∙◌, subst}
use Rattle.std.proofs.lemmas.List.{ext_get_or}
use Rattle.std.proofs.lemmas.Option.{get_or_from_slice_get}
use Rattle.term_model.specs.Terms.{Var, Term}
use Rattle.term_model.proofs.Lists.{nth_there}
use Rattle.rule_model.specs.declared.statuses.Status.{Status}
use Rattle.rule_model.specs.declared.statuses.Verdict.{Verdict}
use Rattle.rule_model.specs.Proofs.{ProofItems}
use Rattle.rule_model.specs.Statuses.{Checking, IsStatusAt, AreStatuses, IsVerdict}
use Rattle.problem_text.specs.Problems.{StandsForProblem}
use Rattle.problem_text.specs.Scripts.{Script}
use Rattle.alethe_text.specs.ProofTexts.{StandsForProof}
use Rattle.alethe_text.specs.States.{ProofSettings}
use Rattle.command_words.specs.declared.request.Options.{Options}
use Rattle.judged_texts.specs.Judgement.{IsCheckedAs}
use Rattle.judged_texts.specs.Reading.{checking_of, settings_of}

-- what the laws below say
abbrev pub IsOneScript : Type 0
IsOneScript = (source : List ℕ) (replaces : Bool) (s t : Script) → StandsForProblem source replaces s → StandsForProblem source replaces t → s ≡ t

abbrev pub IsOneProof : Type 0
IsOneProof =
    (source : List ℕ) (settings : ProofSettings) (before : Script) (p q : ProofItems Var Term) (s t : Script) →
    StandsForProof source settings before p s → StandsForProof source settings before q t → (p ≡ q) × (s ≡ t)

abbrev pub IsOneStatus : Type 0
IsOneStatus = (c : Checking) (proof : ProofItems Var Term) (i : ℕ) (s z : Status) → IsStatusAt c proof i s → IsStatusAt c proof i z → s ≡ z

module _ (one_script : IsOneScript) (one_proof : IsOneProof) (problem : List ℕ) (options : Options) (proof : List ℕ) (v w : Verdict)
    (a : IsCheckedAs problem options proof v) (b : IsCheckedAs problem options proof w) where
  pub same_script : a.script ≡ b.script
  same_script = one_script problem options.replaces_lets a.script b.script a.problem_text b.problem_text

  pub same_commands : a.commands ≡ b.commands
  same_commands =
      (one_proof proof (settings_of options) a.script a.commands b.commands a.after b.after a.proof_text
      (subst (λ s. StandsForProof proof (settings_of options) s b.commands b.after) (sym same_script) b.proof_text)).0

  module _ (one_status : IsOneStatus) where
    others : AreStatuses (checking_of options a.script.assertions) a.commands b.statuses
    others =
        subst (λ p. AreStatuses (checking_of options a.script.assertions) p b.statuses) (sym same_commands)
        (subst (λ (s : Script). AreStatuses (checking_of options s.assertions) b.commands b.statuses) (sym same_script) b.are)

    as_many : length a.statuses ≡ length b.statuses
    as_many = a.are.count ∙ sym others.count

    same_status : (i : ℕ) → i < length a.statuses → get_or a.statuses i Status.Ok ≡ get_or b.statuses i Status.Ok
    same_status i less =
        let one = nth_there a.statuses i less in
        let other = nth_there b.statuses i (subst (λ n. i < n) as_many less) in
        get_or_from_slice_get a.statuses i one.0 Status.Ok one.1
        ∙ (one_status (checking_of options a.script.assertions) a.commands i one.0 other.0 (a.are.each i one.0 one.1) (others.each i other.0 other.1)
        ∙ sym (get_or_from_slice_get b.statuses i other.0 Status.Ok other.1))

    pub same_statuses : a.statuses ≡ b.statuses
    same_statuses = ext_get_or Status.Ok a.statuses b.statuses as_many same_status

    pub same_verdict : ((statuses : List Status) (p : ProofItems Var Term) (v w : Verdict) → IsVerdict statuses p v → IsVerdict statuses p w → v ≡ w) → v ≡ w
    same_verdict one_verdict =
        one_verdict a.statuses a.commands v w a.verdict
        (subst (λ z. IsVerdict z a.commands w) (sym same_statuses) (subst (λ p. IsVerdict b.statuses p w) (sym same_commands) b.verdict))
