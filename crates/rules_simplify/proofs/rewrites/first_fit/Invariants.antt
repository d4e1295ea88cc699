use Rattle.std.proofs.Common.{◌≡◌, ◌↔◌, drop}
use Rattle.term_model.specs.Terms.{Term}
use Rattle.rule_model.specs.Rewriting.{IsFirstFit}
use Rattle.rules_simplify.specs.Chains.{StandsForApplication}
use Rattle.rules_simplify.specs.Tables.{AreRows, rows_of}
use Rattle.rules_simplify.proofs.rewrites.first_fit.Given as goal

abbrev pub invariant-loop-row : goal.invariant-loop-row
invariant-loop-row l = record {
  same : l.terms ≡ l.fn.terms;
  are : AreRows (rows_of l.fn.table) l.row-items;
  left : (t : Term) → StandsForApplication l.fn.symbols l.fn.terms l.fn.at t → (u : Term) → IsFirstFit (drop l.row-index (rows_of l.fn.table)) t u ↔ IsFirstFit (rows_of l.fn.table) t u;
}
