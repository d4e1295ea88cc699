use Rattle.std.proofs.Common.{◌-◌, length}
use Rattle.term_reader.specs.Lately.{IsPut}
use Rattle.term_reader.proofs.lately.put.Given as goal

abbrev pub invariant-rows : goal.invariant-rows
invariant-rows l = IsPut l.fn.rows.items l.row l.rows.items

abbrev pub decreases-rows : goal.decreases-rows
decreases-rows l = 1024 - length l.rows.items
