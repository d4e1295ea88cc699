-- Private. What a run says of two texts whose check is valid or has holes.
use Rattle.std.proofs.Common.{◌≡◌, inl, inr, ℕ, Bool, List, map, refl, sym, ap, ◌∙◌, subst}
use Rattle.sexpr.specs.declared.causes.Refusal.{Refusal}
use Rattle.term_model.specs.Terms.{Var, Term}
use Rattle.rule_model.specs.declared.statuses.Status.{Status}
use Rattle.rule_model.specs.declared.statuses.Verdict.{Verdict}
use Rattle.rule_model.specs.Proofs.{ProofItems}
use Rattle.rule_model.specs.Statuses.{IsVerdict}
use Rattle.problem_text.specs.Problems.{StandsForProblem, IsFirstFault}
use Rattle.problem_text.specs.Scripts.{Script}
use Rattle.alethe_text.specs.ProofTexts.{StandsForProof, IsFirstProofFault}
use Rattle.alethe_text.specs.States.{ProofSettings}
use Rattle.command_words.specs.declared.request.Options.{Options}
use Rattle.judged_texts.specs.declared.judgement.Judgement.{Judgement}
use Rattle.judged_texts.specs.declared.judgement.Judgement.TheVariants.{Valid, Holey, NoEmptyClause, Faulty, TooWide, RefusedProblem, RefusedProof, PoolFull}
use Rattle.judged_texts.specs.Holes.{Hole, holes_from}
use Rattle.judged_texts.specs.Judgement.{IsCheckedAs, IsJudgement}
use Rattle.judged_texts.specs.Reading.{settings_of}
use Rattle.elaborated_texts.specs.Elaborated.{IsStatusOfPrinted}
use Rattle.output_laws.specs.Again.{hole_rules, IsCheckedWith, SaysSo}
use Rattle.output_laws.proofs.HoleRules.{no_rules}
use Rattle.output_laws.proofs.OneCheck.{IsOneScript, IsOneProof, IsOneStatus, same_commands, same_statuses, same_verdict}

-- what the laws below say of refusals and verdicts
abbrev pub AreNotBoth : Type 0
AreNotBoth = (source : List ℕ) (replaces : Bool) (s : Script) (r : Refusal) → StandsForProblem source replaces s → IsFirstFault source replaces r → ⊥

abbrev pub AreNotBothProofs : Type 0
AreNotBothProofs =
    (source : List ℕ) (settings : ProofSettings) (before : Script) (p : ProofItems Var Term) (s : Script) (r : Refusal) →
    StandsForProof source settings before p s → IsFirstProofFault source settings before r → ⊥

abbrev pub IsOneVerdict : Type 0
IsOneVerdict = (statuses : List Status) (p : ProofItems Var Term) (v w : Verdict) → IsVerdict statuses p v → IsVerdict statuses p w → v ≡ w

module _ (one_script : IsOneScript) (one_proof : IsOneProof) (one_status : IsOneStatus) (one_verdict : IsOneVerdict) (not_both : AreNotBoth)
    (not_both_proofs : AreNotBothProofs) (problem : List ℕ) (options : Options) (proof : List ℕ) (v : Verdict) (rules : List (List ℕ)) (status bits : ℕ)
    (known : IsCheckedWith problem options proof v rules) (is : IsStatusOfPrinted v status) where
  printed_of : (w : Verdict) → IsCheckedAs problem options proof w → IsStatusOfPrinted w status
  printed_of w other =
      subst (λ z. IsStatusOfPrinted z status)
      (same_verdict one_script one_proof problem options proof v w known.checked other one_status one_verdict) is

  rules_of : (w : Verdict) (other : IsCheckedAs problem options proof w) → hole_rules other ≡ rules
  rules_of w other =
      ap (λ p. map (λ (h : Hole). h.rule) (holes_from p 0 other.statuses))
      (sym (same_commands one_script one_proof problem options proof v w known.checked other))
      ∙ (ap (λ zs. map (λ (h : Hole). h.rule) (holes_from known.checked.commands 0 zs))
      (sym (same_statuses one_script one_proof problem options proof v w known.checked other one_status))
      ∙ known.holes)

  pub says_so : (j : Judgement) → IsJudgement problem options proof bits j → SaysSo status rules j
  says_so PoolFull h = inl refl
  says_so Valid h =
      inr (sym (printed_of Verdict.Valid h), sym (no_rules h.commands 0 h.statuses h.verdict.0) ∙ rules_of Verdict.Valid h)
  says_so (Holey holes) h =
      inr (
        sym (printed_of Verdict.Holey h.0),
        ap (λ hs. map (λ (h : Hole). h.rule) hs) h.1 ∙ rules_of Verdict.Holey h.0,
      )
  says_so NoEmptyClause h = absurd (printed_of Verdict.NoEmpty h)
  says_so (Faulty id cause) h = absurd (printed_of (Verdict.InvalidAt h.0 cause) h.1)
  says_so (TooWide id) h = absurd (printed_of (Verdict.Unknown h.0) h.1)
  says_so (RefusedProblem r) h = absurd (not_both problem options.replaces_lets known.checked.script r known.checked.problem_text h)
  says_so (RefusedProof r) h =
      let same = one_script problem options.replaces_lets h.0 known.checked.script h.1 known.checked.problem_text in
      absurd (not_both_proofs proof (settings_of options) known.checked.script known.checked.commands known.checked.after r known.checked.proof_text
      (subst (λ s. IsFirstProofFault proof (settings_of options) s r) same h.2))
