use Rattle.rules_congruence.proofs.LinkLemmas.{links_next, small_more}
use Rattle.rules_congruence.proofs.links.both_ways.Goals as goal

pub loop-sides-preserved : goal.loop-sides-preserved
loop-sides-preserved c =
    rw (c.in_ok-add.ensures.added, c.get.ensures) (
      links_next c.args.pairs.now c.loop-sides.sides-index c.sides-item.result c.loop-sides.links.items c.loop-sides-test.true c.sides-item.is c.loop-sides.invariant.0,
      small_more c.loop-sides.links.items c.sides-item.result.0 c.sides-item.result.1 (rw c.get.ensures at c.add.ensures.small) c.loop-sides.invariant.1,
    )
