-- What is made so far.
use Rattle.std.proofs.Common.{◌+◌, All, Contains, take}
use Rattle.lia_filler.specs.Elimination.{AreMadeOf, IsDerived}
use Rattle.lia_filler.proofs.elimination.eliminate.Given as goal

abbrev pub invariant-highs : goal.invariant-highs
invariant-highs l = record {
  derived : All (IsDerived l.rows (l.column + 1)) l.made.items;
  made : AreMadeOf l.rows l.column (take l.x-index l.derived) l.derived (Contains l.made.items);
}
