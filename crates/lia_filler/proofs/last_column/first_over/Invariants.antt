-- Nothing so far is over 0.
use Rattle.std.proofs.Common.{take}
use Rattle.lia_filler.specs.Elimination.{AreMadeOf, IsNotOver}
use Rattle.lia_filler.proofs.last_column.first_over.Given as goal

abbrev pub invariant-highs : goal.invariant-highs
invariant-highs l = AreMadeOf l.rows 3 (take l.x-index l.derived) l.derived (IsNotOver l.rows)
