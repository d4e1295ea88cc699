-- Private. The way from a scope down to one inside it.
use Rattle.std.specs.Prelude.{◌≡◌, ◌≤◌, ℕ, List, [], ◌∷◌, Some}
use Rattle.rule_model.specs.Proofs.{ProofItems}
use Rattle.rule_model.specs.Reading.{parent_at}
use Rattle.rule_model.specs.Scopes.{subproofs_in}
use Rattle.sym_table.specs.Table.{Table}
use Rattle.term_pool.specs.Views.{TermsView}
use Rattle.proof_contexts.specs.OpenAnchors.{AreKept}
use Rattle.proof_contexts.specs.declared.scopes.OpenScopes.{OpenScopes}

-- from the scope `start` the scopes of the list have to be entered, the last of them first, to be in `goal`
abbrev pub IsWayDown : ProofItems ℕ ℕ → ℕ → ℕ → List ℕ → Type 0
IsWayDown proof start goal [] = goal ≡ start
IsWayDown proof start goal (k ∷ ks) =
    (goal ≡ k) × (k ≤ subproofs_in proof) × ((p : ℕ) × (parent_at proof k ≡ Some p) × IsWayDown proof start p ks)

-- what is kept is right of some proof
pub record AreKeptOfSome (x : OpenScopes) : Type 0 where
  pub table : Table
  pub view : TermsView
  pub refs : ProofItems ℕ ℕ
  pub kept : AreKept table view refs x
