use Rattle.std.proofs.Common.{arith}
use Rattle.rules_congruence.proofs.WayLemmas.{ends_more, adds_ends}
use Rattle.rules_congruence.proofs.ways.add_ends.Goals as goal

pub loop-place-preserved : goal.loop-place-preserved
loop-place-preserved c =
    let low = c.loop-place.invariant.0 in
    let high = c.loop-place-test.true in (
      omega arith,
      ends_more c.args.links.now c.args.from c.first_from-first.result c.first_from-end.result c.loop-place.place c.link_at.result
          c.args.reached.now.keys c.loop-place.reached.keys c.reach.new.reached.keys c.requires.small c.first_from-first.ensures c.first_from-end.ensures
          (omega arith) (omega arith) c.link_at.ensures c.loop-place.invariant.1 c.in_ok-reach.ensures,
    )

pub returns : goal.returns
returns c =
    let past = c.loop-place-test.false in
    adds_ends c.args.links.now c.args.from c.first_from-first.result c.first_from-end.result c.loop-place.place
    c.args.reached.now.keys c.loop-place.reached.keys c.requires.small c.first_from-first.ensures c.first_from-end.ensures (omega arith) c.loop-place.invariant.1
