use Rattle.std.proofs.Common.{◌≡◌}
use Rattle.std.specs.List.{AllByRecursion}
use Rattle.pair_pool.specs.Views.{IsKnown}
use Rattle.step_check.proofs.looking_ahead.take_parts.Given as goal

abbrev pub invariant-cells : goal.invariant-cells
invariant-cells l = (l.terms ≡ l.initial.terms) × AllByRecursion (IsKnown l.initial.terms.pass) l.parts.items
