use Rattle.std.proofs.Common.{◌≡◌}
use Rattle.rules_simplify.proofs.opposed.has_negation.Given as goal

abbrev pub invariant-loop-item : goal.invariant-loop-item
invariant-loop-item l = l.terms ≡ l.fn.terms
