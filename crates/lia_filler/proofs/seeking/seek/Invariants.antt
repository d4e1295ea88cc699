-- What is derived suffices.
use Rattle.std.proofs.Common.{All, Contains}
use Rattle.lia_filler.specs.Elimination.{IsDerived}
use Rattle.lia_filler.proofs.Enough.{AreEnough}
use Rattle.lia_filler.proofs.seeking.seek.Given as goal

abbrev pub invariant-columns : goal.invariant-columns
invariant-columns l = record {
  derived : All (IsDerived l.rows l.column) l.derived.items;
  enough : AreEnough l.rows (Contains l.derived.items);
}
