-- The rows so far.
use Rattle.std.proofs.Common.{◌≡◌, List, take}
use Rattle.term_model.specs.Terms.{Term}
use Rattle.term_pool.specs.Views.{ReferToAll}
use Rattle.lia_rows.specs.Found.{AreFound}
use Rattle.lia_rows.specs.Rows.{Row, AreRowsOf}
use Rattle.lia_rows.proofs.rows.rows_of.Given as goal

abbrev pub invariant-assertions : goal.invariant-assertions
invariant-assertions l = record {
  same : l.terms ≡ l.initial.terms;
  found : (ts : List Term) → ReferToAll l.symbols l.initial.terms (take l.assertion-index l.assertions) ts
      → (rows : List Row) × AreRowsOf ts rows × AreFound l.symbols l.initial.terms l.rows rows;
}
