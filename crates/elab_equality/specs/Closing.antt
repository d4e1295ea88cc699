-- Private. What a let and the anchor of the scope that it closes bind their variables to.
use Rattle.std.specs.Prelude.{◌≡◌, ◌≢◌, ℕ, List, map, Some}
use Rattle.term_model.specs.FreeVariables.{bound_terms}
use Rattle.term_model.specs.Terms.{Var, Term}
use Rattle.term_pool.specs.Views.{TermsView, ReferToAll}
use Rattle.proof_store.specs.Meaning.{StandForItems}
use Rattle.rule_model.specs.declared.rules.Mode.{Mode}
use Rattle.rule_model.specs.Proofs.{ProofItems}
use Rattle.rule_model.specs.Reading.{bindings_at, closes_at}
use Rattle.rule_model.specs.Subproof.{IsLetClosing}
use Rattle.equality_steps.specs.declared.site.Site.{Site}
use Rattle.elab_equality.specs.Linked.{IsPair}

-- the command closes a scope by let: what its let binds the variables to, and what the anchor does, in order
pub record AreBound (p : Site) (v : TermsView) (values images : List ℕ) : Type 0 where
  pub proof : ProofItems Var Term
  pub stand : StandForItems p.symbols.now v p.proof.now proof
  pub scope : ℕ
  pub closes : closes_at p.proof.now p.command ≡ Some scope
  pub closing : IsLetClosing Mode.Check proof p.command scope
  pub values_refer : ReferToAll p.symbols.now v values (bound_terms closing.bindings)
  pub images_refer : ReferToAll p.symbols.now v images (map (λ (b : Var × Term). b.1) (bindings_at proof scope))

-- two references that are one, or a pair that the command links
abbrev pub IsPairWhereApart : Site → TermsView → ℕ → ℕ → Type 0
IsPairWhereApart p v a b = a ≢ b → IsPair p v a b
