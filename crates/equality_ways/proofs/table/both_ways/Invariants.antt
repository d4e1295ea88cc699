use Rattle.equality_ways.specs.Tables.{AreEntriesTo}
use Rattle.equality_ways.proofs.table.both_ways.Given as goal

abbrev pub invariant-loop-place : goal.invariant-loop-place
invariant-loop-place l = AreEntriesTo l.sides l.place l.entries.items
