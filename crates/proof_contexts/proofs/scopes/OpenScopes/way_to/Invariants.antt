use Rattle.std.proofs.Common.{◌≤◌, ℕ}
use Rattle.rule_model.specs.Proofs.{ProofItems}
use Rattle.rule_model.specs.Scopes.{subproofs_in}
use Rattle.sym_table.specs.Table.{Table}
use Rattle.term_pool.specs.Views.{TermsView}
use Rattle.proof_contexts.specs.OpenAnchors.{AreKept}
use Rattle.proof_contexts.specs.Ways.{IsWayDown}
use Rattle.proof_contexts.proofs.scopes.OpenScopes.way_to.Given as goal

abbrev pub invariant-up : goal.invariant-up
invariant-up l = record {
  within : l.at ≤ subproofs_in l.proof;
  way : IsWayDown l.proof l.at l.scope l.way.items;
  kept : (s : Table) (v : TermsView) (refs : ProofItems ℕ ℕ) → AreKept s v refs l.fn.self → AreKept s v refs l.self;
}

abbrev pub decreases-up : goal.decreases-up
decreases-up l = l.at
