-- What a judgement tells of a reply is so: one that is judged to be anything but valid fills nothing.
use Rattle.std.proofs.Common.{◌≡◌, ◌≤◌, ℕ, Bool, List, length, IfOk, IfErr, subst}
use Rattle.sexpr.specs.declared.causes.Refusal.{Refusal}
use Rattle.term_model.specs.Terms.{Var, Term}
use Rattle.rule_model.specs.declared.statuses.Status.{Status}
use Rattle.rule_model.specs.declared.statuses.Verdict.{Verdict}
use Rattle.rule_model.specs.Proofs.{ProofItems}
use Rattle.rule_model.specs.Statuses.{IsVerdict}
use Rattle.problem_text.specs.Problems.{StandsForProblem, IsFirstFault}
use Rattle.problem_text.specs.Scripts.{Script}
use Rattle.alethe_text.specs.ProofTexts.{StandsForProof, IsFirstProofFault}
use Rattle.alethe_text.specs.States.{ProofSettings}
use Rattle.judged_texts.specs.declared.judgement.Judgement.{Judgement}
use Rattle.judged_texts.specs.declared.judgement.Judgement.TheVariants.{Valid, Holey, NoEmptyClause, Faulty}
use Rattle.judged_texts.specs.declared.judgement.Judgement.TheVariants.{TooWide, RefusedProblem, RefusedProof, PoolFull}
use Rattle.judged_texts.specs.Judgement.{IsCheckedAs, IsJudgement}
use Rattle.judged_texts.specs.Reading.{most_bytes, settings_of}
use Rattle.filled_texts.specs.Asking.{plain, Fills}
use Rattle.filled_texts.specs.Replies.{told_by, IsTold, IsNotTold}
use Rattle.filled_texts.proofs.OneCheck.{IsOneScript, IsOneProof, IsOneStatus, same_verdict}

-- what the laws below say of refusals and verdicts
abbrev pub AreNotBoth : Type 0
AreNotBoth = (source : List ℕ) (replaces : Bool) (s : Script) (r : Refusal) → StandsForProblem source replaces s → IsFirstFault source replaces r → ⊥

abbrev pub AreNotBothProofs : Type 0
AreNotBothProofs =
    (source : List ℕ) (settings : ProofSettings) (before : Script) (p : ProofItems Var Term) (s : Script) (r : Refusal) →
    StandsForProof source settings before p s → IsFirstProofFault source settings before r → ⊥

abbrev pub IsOneVerdict : Type 0
IsOneVerdict = (statuses : List Status) (p : ProofItems Var Term) (v w : Verdict) → IsVerdict statuses p v → IsVerdict statuses p w → v ≡ w

module _ (one_script : IsOneScript) (one_proof : IsOneProof) (one_status : IsOneStatus) (one_verdict : IsOneVerdict) (not_both : AreNotBoth)
    (not_both_proofs : AreNotBothProofs) (question reply : List ℕ) where
  other : (v : Verdict) → IsCheckedAs question plain reply v → Fills question reply → Verdict.Valid ≡ v
  other v h fills = same_verdict one_script one_proof question plain reply Verdict.Valid v fills.valid h one_status one_verdict

  module _ (bits : ℕ) (question_within : length question ≤ most_bytes) (reply_within : length reply ≤ most_bytes) where
    -- what a judgement tells is so
    pub tells : (j : Judgement) → IsJudgement question plain reply bits j → IfOk (told_by j) (IsTold question reply)
    tells Valid h = record { question_within = question_within; reply_within = reply_within; valid = h }
    tells PoolFull h = tt
    tells (Holey holes) h = λ f. let e : Verdict.Valid ≡ Verdict.Holey = other Verdict.Holey h.0 f in absurd cc
    tells NoEmptyClause h = λ f. let e : Verdict.Valid ≡ Verdict.NoEmpty = other Verdict.NoEmpty h f in absurd cc
    tells (Faulty id cause) h =
        λ f. let e : Verdict.Valid ≡ Verdict.InvalidAt h.0 cause = other (Verdict.InvalidAt h.0 cause) h.1 f in absurd cc
    tells (TooWide id) h = λ f. let e : Verdict.Valid ≡ Verdict.Unknown h.0 = other (Verdict.Unknown h.0) h.1 f in absurd cc
    tells (RefusedProblem r) h = λ f. not_both question plain.replaces_lets f.valid.script r f.valid.problem_text h
    tells (RefusedProof r) h =
        λ f.
        let e = one_script question plain.replaces_lets h.0 f.valid.script h.1 f.valid.problem_text in
        not_both_proofs reply (settings_of plain) f.valid.script f.valid.commands f.valid.after r f.valid.proof_text
        (subst (λ s. IsFirstProofFault reply (settings_of plain) s r) e h.2)

    pub stops : (j : Judgement) → IsJudgement question plain reply bits j → IfErr (told_by j) (IsNotTold bits question reply)
    stops PoolFull h = h
    stops Valid h = tt
    stops (Holey holes) h = tt
    stops NoEmptyClause h = tt
    stops (Faulty id cause) h = tt
    stops (TooWide id) h = tt
    stops (RefusedProblem r) h = tt
    stops (RefusedProof r) h = tt
