-- The rows so far.
use Rattle.std.proofs.Common.{All}
use Rattle.lia_filler.specs.Elimination.{AreRowsOf, IsDerived}
use Rattle.lia_filler.proofs.seeking.each_once.Given as goal

abbrev pub invariant-rows : goal.invariant-rows
invariant-rows l = record {
  derived : All (IsDerived l.rows 0) l.derived.items;
  rows : AreRowsOf l.rows l.derived.items l.place;
}
