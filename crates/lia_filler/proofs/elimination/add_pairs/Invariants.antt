-- The pairs so far.
use Rattle.std.proofs.Common.{◌+◌, ℤ, List, All, Contains, take}
use Rattle.lia_filler.specs.Elimination.{ArePairsOf, IsDerived}
use Rattle.lia_filler.proofs.elimination.add_pairs.Given as goal

abbrev pub invariant-lows : goal.invariant-lows
invariant-lows l = record {
  derived : All (IsDerived l.rows (l.column + 1)) l.made.items;
  kept : (z : List ℤ) → Contains l.initial.made.items z → Contains l.made.items z;
  pairs : ArePairsOf l.rows l.column l.x (take l.y-index l.derived) (Contains l.made.items);
}
