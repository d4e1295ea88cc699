use Rattle.step_claimer.proofs.Seating.{live_whole}
use Rattle.step_claimer.proofs.claimer.ClaimSeat.all_shares_each_once.Goals as goal

pub returns : goal.returns
returns c = rw (← c.self.view_is) (live_whole c.self.inside.seat c.self.invariant.0)
