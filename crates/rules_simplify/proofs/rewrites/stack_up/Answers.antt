use Rattle.std.proofs.Common.{arith}
use Rattle.schema_match.proofs.StackLemmas.{stacked_none, stacked_more}
use Rattle.rules_simplify.proofs.rewrites.stack_up.Goals as goal

pub items-init : goal.items-init
items-init c = (omega arith, stacked_none c.args.list.now _ c.clear.ensures.items)

pub items-preserved : goal.items-preserved
items-preserved c = (
  omega arith,
  stacked_more c.args.list.now _ _ _ _ (omega arith) c.items.invariant.0 c.index-list-left.is c.items.invariant.1 (rw c.get.ensures at c.in_ok-push.ensures),
)
