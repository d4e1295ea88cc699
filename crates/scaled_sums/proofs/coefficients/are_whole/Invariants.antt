-- All coefficients so far are whole.
use Rattle.std.proofs.Common.{take, ◌*ℤ◌, All}
use Rattle.rule_model.specs.Arith.{IsWhole}
use Rattle.scaled_sums.proofs.coefficients.are_whole.Given as goal

abbrev pub invariant-loop-c : goal.invariant-loop-c
invariant-loop-c l = All (λ c. IsWhole l.multiple (l.factor *ℤ c.number)) (take l.c-index l.line)
