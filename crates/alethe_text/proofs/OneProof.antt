-- A text of items has one reading behind a problem: a proof, or the first fault.
use Rattle.std.proofs.Common.{◌≡◌, ℕ, List, Result, Ok, Err, refl, sym, ap, ◌∙◌, ◌⊎◌, inl, inr}
use Rattle.sexpr.specs.declared.causes.Refusal.{Refusal}
use Rattle.sexpr.specs.Form.{HasForm}
use Rattle.term_model.specs.Terms.{Var, Term}
use Rattle.rule_model.specs.Proofs.{ProofItems as Proof}
use Rattle.problem_text.specs.Scripts.{Script}
use Rattle.problem_text.proofs.OneReading.{OneNesting, NoFormFault, OneFormFault}
use Rattle.alethe_text.specs.States.{ProofSettings, unread}
use Rattle.alethe_text.specs.ProofTexts.{proof_from, StandsForProof, IsProofCommandFault, IsFirstProofFault}

ok_same : {A : Type 0} (a b : A) → ◌≡◌ {A = Result A Refusal} (Ok a) (Ok b) → a ≡ b
ok_same a b e = cc

err_same : {A : Type 0} (a b : Refusal) → ◌≡◌ {A = Result A Refusal} (Err a) (Err b) → a ≡ b
err_same a b e = cc

ok_or_err : {A : Type 0} (a : A) (r : Refusal) → ◌≡◌ {A = Result A Refusal} (Ok a) (Err r) → ⊥
ok_or_err a r e = cc

module _ (source : List ℕ) (settings : ProofSettings) (before : Script) where
  pub one_proof : OneNesting → (p q : Proof Var Term) (s t : Script) → StandsForProof source settings before p s → StandsForProof source settings before q t → (p ≡ q) × (s ≡ t)
  one_proof one p q s t a b =
      let same = one source a.items b.items a.nested b.nested in (
        ok_same p q (sym a.read ∙ ap (λ i. (proof_from settings i (unread before)).result) same ∙ b.read),
        sym a.script ∙ ap (λ i. (proof_from settings i (unread before)).state.script) same ∙ b.script,
      )

  one_command_fault : OneNesting → (r q : Refusal) → IsProofCommandFault source settings before r → IsProofCommandFault source settings before q → r ≡ q
  one_command_fault one r q a b =
      err_same r q (sym a.refused ∙ ap (λ i. (proof_from settings i (unread before)).result) (one source a.items b.items a.nested b.nested) ∙ b.refused)

  pub one_fault : OneNesting → NoFormFault → OneFormFault → (r q : Refusal) → IsFirstProofFault source settings before r → IsFirstProofFault source settings before q → r ≡ q
  one_fault one none form r q (inl a) (inl b) = form source r q a b
  one_fault one none form r q (inl a) (inr b) = absurd (none source r (b.items, b.nested) a)
  one_fault one none form r q (inr a) (inl b) = absurd (none source q (a.items, a.nested) b)
  one_fault one none form r q (inr a) (inr b) = one_command_fault one r q a b

  pub no_fault : OneNesting → NoFormFault → (p : Proof Var Term) (s : Script) (r : Refusal) → StandsForProof source settings before p s → IsFirstProofFault source settings before r → ⊥
  no_fault one none p s r a (inl b) = none source r (a.items, a.nested) b
  no_fault one none p s r a (inr b) =
      ok_or_err p r (sym a.read ∙ ap (λ i. (proof_from settings i (unread before)).result) (one source a.items b.items a.nested b.nested) ∙ b.refused)

  pub one_of_both : HasForm source → ((p : Proof Var Term) × (s : Script) × StandsForProof source settings before p s) ⊎ ((r : Refusal) × IsFirstProofFault source settings before r)
  one_of_both (items, nested) = go (proof_from settings items (unread before)).result refl
    where
      go : (result : Result (Proof Var Term) Refusal) → (proof_from settings items (unread before)).result ≡ result → ((p : Proof Var Term) × (s : Script) × StandsForProof source settings before p s) ⊎ ((r : Refusal) × IsFirstProofFault source settings before r)
      go (Ok p) e = inl (p, (proof_from settings items (unread before)).state.script, record { items = items; nested = nested; read = e; script = refl })
      go (Err r) e = inr (r, inr (record { items = items; nested = nested; refused = e }))
