-- The power so far, which is narrow.
use Rattle.std.proofs.Common.{◌-◌, ◌≡◌, ◌^◌, ◌<◌, ◌≤◌}
use Rattle.coefficients.proofs.fractions.power_of_ten.Given as goal

abbrev pub invariant-powers : goal.invariant-powers
invariant-powers l = record { same : l.power ≡ 10 ^ l.k; narrow : l.power < 2 ^ 127; within : l.k ≤ l.exponent }

abbrev pub decreases-powers : goal.decreases-powers
decreases-powers l = l.exponent - l.k
