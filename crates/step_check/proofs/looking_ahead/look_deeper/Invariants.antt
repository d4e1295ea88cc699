use Rattle.std.proofs.Common.{◌≡◌}
use Rattle.std.specs.List.{AllByRecursion}
use Rattle.pair_pool.specs.Views.{IsKnown}
use Rattle.step_check.proofs.looking_ahead.look_deeper.Given as goal

abbrev pub invariant-turns : goal.invariant-turns
invariant-turns l = (l.terms ≡ l.initial.terms) × AllByRecursion (IsKnown l.initial.terms.pass) l.cells.items
