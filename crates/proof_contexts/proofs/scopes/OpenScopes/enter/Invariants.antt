use Rattle.std.proofs.Common.{vec_len}
use Rattle.term_model.specs.Terms.{Var, Term}
use Rattle.proof_store.specs.Meaning.{StandForItems}
use Rattle.rule_model.specs.Proofs.{ProofItems}
use Rattle.term_pool.specs.Views.{KeepsTerms}
use Rattle.proof_contexts.specs.OpenAnchors.{AreKept, IsAnchorImage, scope_of}
use Rattle.term_pool.specs.Placing.{PlacesCellsOf}
use Rattle.proof_contexts.specs.Ways.{IsWayDown}
use Rattle.proof_contexts.proofs.scopes.OpenScopes.enter.Given as goal

abbrev pub invariant-down : goal.invariant-down
invariant-down l = record {
  kept : AreKept l.fn.symbols l.terms l.proof l.self;
  keeps : KeepsTerms l.fn.terms l.terms;
  way : IsWayDown l.proof (scope_of l.self) l.fn.scope l.way.items;
  placed : (of : ProofItems Var Term) → StandForItems l.fn.symbols l.fn.terms l.proof of → PlacesCellsOf l.fn.symbols l.fn.terms.pass l.terms.pass (IsAnchorImage of);
}

abbrev pub decreases-down : goal.decreases-down
decreases-down l = vec_len l.way
