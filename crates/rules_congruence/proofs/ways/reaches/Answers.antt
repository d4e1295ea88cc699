use Rattle.std.proofs.Common.{◌<◌, ◌≤◌, length, arith}
use Rattle.rules_congruence.proofs.WayLemmas.{reached_first, reached_next, reached_all, key_there}
use Rattle.rules_congruence.proofs.ways.reaches.Goals as goal

pub reached-init : goal.reached-init
reached-init c =
    let bound = c.number.ensures.bound in
    rw (← c.number.ensures.number)
    (reached_first c.args.links.now c.number.result c.new-reached.result.keys c.reach.new.reached.keys (omega arith) c.new-reached.ensures.len c.in_ok-reach.ensures)

pub add_ends-requires-clause-from : goal.add_ends-requires-clause-from
add_ends-requires-clause-from c =
    let len = c.len.ensures.len in
    let test = c.reached-test.true in
    c.reached.invariant.small c.key_at-next.result (key_there c.reached.reached.keys c.reached.at c.key_at-next.result (omega arith) c.key_at-next.ensures.is)

pub reached-preserved : goal.reached-preserved
reached-preserved c =
    let len = c.len.ensures.len in
    let test = c.reached-test.true in
    let below : c.reached.at < length c.reached.reached.keys = omega arith in
    reached_next c.args.links.now c.args.from c.reached.at c.key_at-next.result c.reached.reached.keys c.add_ends.new.reached.keys c.requires.small below
    (c.key_at-next.ensures.is 0) (key_there c.reached.reached.keys c.reached.at c.key_at-next.result below c.key_at-next.ensures.is) c.reached.invariant c.in_ok-add_ends.ensures

pub returns : goal.returns
returns c =
    let len = c.len.ensures.len in
    let test = c.reached-test.false in
    let past : length c.reached.reached.keys ≤ c.reached.at = omega arith in
    rw (c.contains.ensures, c.number-2.ensures.number) (reached_all c.args.links.now c.args.from c.reached.at c.args.to c.reached.reached.keys past c.reached.invariant)
