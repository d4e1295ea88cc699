use Rattle.std.proofs.Common.{arith}
use Rattle.schema_match.proofs.StackLemmas.{stacked_none, stacked_more}
use Rattle.schema_match.proofs.stack.stack_clause.Goals as goal

pub literals-init : goal.literals-init
literals-init c = (omega arith, stacked_none c.args.clause.now _ c.clear.ensures.items)

pub literals-preserved : goal.literals-preserved
literals-preserved c = (omega arith, stacked_more c.args.clause.now _ _ _ _ (omega arith) c.literals.invariant.0 c.index-clause-left.is c.literals.invariant.1 c.in_ok-push.ensures)
