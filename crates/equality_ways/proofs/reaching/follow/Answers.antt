use Rattle.std.proofs.Common.{refl, arith}
use Rattle.equality_ways.proofs.ReachLemmas.{follows_next, follows_all}
use Rattle.equality_ways.proofs.reaching.follow.Goals as goal

pub loop-place-preserved : goal.loop-place-preserved
loop-place-preserved c =
    let low = c.loop-place.invariant.0 in
    let high = c.loop-place-test.true in (
      omega arith,
      follows_next c.args.entries.now c.args.at c.args.from c.first_from-first.result c.first_from-end.result c.loop-place.place c.entry_at-entry.result
          (record { from = c.args.at; used = c.entry_at-entry.result.used })
          c.args.reached.now.keys.keys c.loop-place.reached.keys.keys c.reach.new.reached.keys.keys
          c.args.reached.now.steps.items c.loop-place.reached.steps.items c.reach.new.reached.steps.items
          c.requires.searchable.small c.first_from-first.ensures c.first_from-end.ensures (omega arith) (omega arith) c.entry_at-entry.ensures refl refl
          c.loop-place.invariant.1 c.in_ok-reach.ensures,
    )

pub returns : goal.returns
returns c =
    let past = c.loop-place-test.false in
    follows_all c.args.entries.now c.args.at c.args.from c.first_from-first.result c.first_from-end.result c.loop-place.place
    c.args.reached.now.keys.keys c.loop-place.reached.keys.keys c.args.reached.now.steps.items c.loop-place.reached.steps.items
    c.requires.searchable.small c.first_from-first.ensures c.first_from-end.ensures (omega arith) c.loop-place.invariant.1
