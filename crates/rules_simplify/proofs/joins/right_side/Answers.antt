use Rattle.std.proofs.Common.{inr}
use Rattle.rules_simplify.proofs.joins.right_side.Goals as goal

pub returns-in_default-clause-side : goal.returns-in_default-clause-side
returns-in_default-clause-side c t refers = inr ((rw c.in_default.is at c.in_ok-place.ensures.other) t refers, c.new-arguments.ensures.items)
