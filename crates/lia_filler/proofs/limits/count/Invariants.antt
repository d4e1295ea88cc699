-- The rows so far, and those to come.
use Rattle.std.proofs.Common.{◌≡◌, ◌+◌, ◌*◌, ◌≤◌, drop}
use Rattle.lia_filler.specs.Plain.{inequalities_of}
use Rattle.lia_filler.proofs.limits.count.Given as goal

abbrev pub invariant-rows : goal.invariant-rows
invariant-rows l = record {
  counts : l.count + inequalities_of (drop l.row-index l.rows) ≡ inequalities_of l.rows;
  few : l.count ≤ 2 * l.row-index;
}
