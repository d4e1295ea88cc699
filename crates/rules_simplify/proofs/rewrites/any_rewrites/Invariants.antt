use Rattle.std.proofs.Common.{◌≡◌, drop, Any}
use Rattle.term_model.specs.Terms.{Term}
use Rattle.term_pool.specs.Views.{RefersTo}
use Rattle.rule_model.specs.Rewriting.{Rewrites}
use Rattle.rules_simplify.specs.Chains.{StandsForApplication}
use Rattle.rules_simplify.specs.Tables.{AreRows, rows_of}
use Rattle.rules_simplify.proofs.rewrites.any_rewrites.Given as goal

abbrev pub invariant-loop-row : goal.invariant-loop-row
invariant-loop-row l = record {
  same : l.terms ≡ l.fn.terms;
  are : AreRows (rows_of l.fn.table) l.row-items;
  left : (t u : Term) → StandsForApplication l.fn.symbols l.fn.terms l.fn.at t → RefersTo l.fn.symbols l.fn.terms l.fn.right u → Any (λ row. Rewrites row t u) (rows_of l.fn.table) →
      Any (λ row. Rewrites row t u) (drop l.row-index (rows_of l.fn.table));
}
