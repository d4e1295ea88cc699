use Rattle.std.proofs.Common.{length}
use Rattle.rules_resolution.specs.Standing.{open_at}
use Rattle.rules_resolution.proofs.Closing.{ready_more, ready_more-in_range}
use Rattle.rules_resolution.proofs.standing.ready_of.Goals as goal

pub loop-premise-preserved : goal.loop-premise-preserved
loop-premise-preserved c =
    rw c.in_ok-note_ready.ensures (
      ready_more c.args.standings.now c.loop-premise.ready.items c.loop-premise.premise c.loop-premise.invariant.0,
      ready_more-in_range (length c.args.standings.now) c.loop-premise.ready.items c.loop-premise.premise (open_at c.args.standings.now c.loop-premise.premise) c.loop-premise-test.true c.loop-premise.invariant.1,
    )
