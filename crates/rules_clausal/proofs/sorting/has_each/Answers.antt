use Rattle.rules_clausal.proofs.SortingLemmas.{each_none, each_more, each_all}
use Rattle.rules_clausal.proofs.sorting.has_each.Goals as goal

pub returns-then-not-has : goal.returns-then-not-has
returns-then-not-has c =
    each_none c.args.sorted.now c.args.clause.now c.loop-literal.literal-index c.literal-item.result c.has.result c.loop-literal-test.true c.literal-item.is c.has.ensures c.if-not-has.true

pub loop-literal-preserved : goal.loop-literal-preserved
loop-literal-preserved c =
    each_more c.args.sorted.now c.args.clause.now c.loop-literal.literal-index c.literal-item.result c.has.result c.loop-literal-test.true c.literal-item.is c.has.ensures c.if-not-has.false c.loop-literal.invariant

pub returns : goal.returns
returns c = each_all c.args.sorted.now c.args.clause.now c.loop-literal.literal-index c.loop-literal-test.false c.loop-literal.invariant
