use Rattle.rules_resolution.proofs.Scanning.{leads_to_conflict, stuck_from_idle}
use Rattle.rules_resolution.proofs.few.propagate_few.Goals as goal

pub returns-in-Conflict : goal.returns-in-Conflict
returns-in-Conflict c =
    let round = rw c.in-Conflict.is at c.in_ok-premise.ensures in (
      c.if-contradicts_itself.ensures,
      leads_to_conflict _ c.args.goal.now _ _ c.in-Conflict.premise (round.0 c.args.goal.now c.rounds.invariant) round.1,
    )

pub returns-in-Idle : goal.returns-in-Idle
returns-in-Idle c =
    let round = rw c.in-Idle.is at c.in_ok-premise.ensures in
    stuck_from_idle _ c.args.goal.now _ _ (round.0 c.args.goal.now c.rounds.invariant) round.1 c.if-contradicts_itself.ensures
