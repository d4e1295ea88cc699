use Rattle.std.proofs.Common.{ℕ, vec_len}
use Rattle.rule_model.specs.Proofs.{ProofItems}
use Rattle.sym_table.specs.Table.{Table}
use Rattle.term_pool.specs.Views.{TermsView}
use Rattle.proof_contexts.specs.OpenAnchors.{AreKept}
use Rattle.proof_contexts.proofs.scopes.OpenScopes.leave.Given as goal

abbrev pub invariant-scopes : goal.invariant-scopes
invariant-scopes l = (s : Table) (v : TermsView) (refs : ProofItems ℕ ℕ) → AreKept s v refs l.fn.self → AreKept s v refs l.self

abbrev pub decreases-scopes : goal.decreases-scopes
decreases-scopes l = vec_len l.self.around
