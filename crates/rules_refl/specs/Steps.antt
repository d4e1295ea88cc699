-- Public. The step for which references stand in the scope of a proof that was entered last.
use Rattle.std.specs.Prelude.{ℕ, List}
use Rattle.proof_contexts.specs.OpenAnchors.{AreOpenIn, scope_of}
use Rattle.proof_contexts.specs.declared.scopes.OpenScopes.{OpenScopes}
use Rattle.proof_store.specs.Meaning.{StandForItems}
use Rattle.rule_model.specs.Judged.{Judged}
use Rattle.rule_model.specs.Proofs.{ProofItems}
use Rattle.rule_model.specs.Replacement.{Replacement}
use Rattle.sym_table.specs.Table.{Table}
use Rattle.term_model.specs.Terms.{Var, Term}
use Rattle.term_parts.specs.Judging.{StandsForStep}
use Rattle.term_parts.specs.declared.steps.Step.{Step}
use Rattle.term_pool.specs.Views.{TermsView, RefersTo}

-- these anchors are open in the scope that was entered last, of the proof for which the references stand
pub record AreOpenHere (s : Table) (v : TermsView) (refs : ProofItems ℕ ℕ) (scopes : OpenScopes) (anchors : List Replacement) : Type 0 where
  pub proof : ProofItems Var Term
  pub stand : StandForItems s v refs proof
  pub are_open : AreOpenIn proof (scope_of scopes) anchors

-- the references stand for those of the step by refl, and its anchors are these
pub record StandsInScope (s : Table) (v : TermsView) (refs : ProofItems ℕ ℕ) (scopes : OpenScopes) (given : Step) (j : Judged) : Type 0 where
  pub anchors : AreOpenHere s v refs scopes j.anchors
  pub step : StandsForStep s v given j

-- these anchors are open here, and the references stand for these sides of an equality
pub record AreSidesHere (s : Table) (v : TermsView) (refs : ProofItems ℕ ℕ) (scopes : OpenScopes) (sides : ℕ × ℕ)
    (anchors : List Replacement) (t u : Term) : Type 0 where
  pub here : AreOpenHere s v refs scopes anchors
  pub left : RefersTo s v sides.0 t
  pub right : RefersTo s v sides.1 u
