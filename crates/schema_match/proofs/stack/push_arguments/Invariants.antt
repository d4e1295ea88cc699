use Rattle.std.proofs.Common.{◌≡◌}
use Rattle.schema_match.specs.Pushing.{AddsArguments}
use Rattle.schema_match.proofs.stack.push_arguments.Given as goal

abbrev pub invariant-arguments : goal.invariant-arguments
invariant-arguments l = record {
  same : l.terms ≡ l.fn.terms;
  adds : AddsArguments l.fn.terms l.r l.count l.left l.fn.stack.items l.stack.items;
}

abbrev pub decreases-arguments : goal.decreases-arguments
decreases-arguments l = l.left
