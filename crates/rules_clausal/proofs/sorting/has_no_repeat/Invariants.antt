use Rattle.std.proofs.Common.{◌≤◌}
use Rattle.rules_clausal.proofs.SortingLemmas.{Rises}
use Rattle.rules_clausal.proofs.sorting.has_no_repeat.Given as goal

abbrev pub invariant-loop-place : goal.invariant-loop-place
invariant-loop-place l = (1 ≤ l.place) × Rises l.sorted l.place
