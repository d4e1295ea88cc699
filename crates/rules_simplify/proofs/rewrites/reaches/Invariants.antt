use Rattle.std.proofs.Common.{◌≡◌}
use Rattle.term_model.specs.Terms.{Term}
use Rattle.term_pool.specs.Views.{RefersTo}
use Rattle.rules_simplify.specs.Chains.{StandsForApplication, IsSomeAt}
use Rattle.rules_simplify.specs.Tables.{rows_of}
use Rattle.rules_simplify.proofs.StepLemmas.{IsOnWay}
use Rattle.rules_simplify.proofs.WeightLemmas.{weight_at}
use Rattle.rules_simplify.proofs.rewrites.reaches.Given as goal

abbrev pub invariant-chain : goal.invariant-chain
invariant-chain l = record {
  same : l.terms ≡ l.fn.terms;
  some : IsSomeAt l.fn.symbols l.fn.terms l.at;
  way : (t u : Term) → StandsForApplication l.fn.symbols l.fn.terms l.fn.at t → RefersTo l.fn.symbols l.fn.terms l.fn.right u → IsOnWay l.fn.symbols l.fn.terms (rows_of l.fn.table) l.at t u;
}

abbrev pub decreases-chain : goal.decreases-chain
decreases-chain l = weight_at l.fn.symbols l.fn.terms l.at
