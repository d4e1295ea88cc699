-- No pair so far is over 0.
use Rattle.std.proofs.Common.{take}
use Rattle.lia_filler.specs.Elimination.{ArePairsOf, IsNotOver}
use Rattle.lia_filler.proofs.last_column.first_pair_over.Given as goal

abbrev pub invariant-lows : goal.invariant-lows
invariant-lows l = ArePairsOf l.rows 3 l.x (take l.y-index l.derived) (IsNotOver l.rows)
