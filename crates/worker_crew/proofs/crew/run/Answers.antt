use Rattle.std.proofs.Common.{◌∙◌, subst}
use Rattle.step_claimer.specs.Claims.{HasEachOnce}
use Rattle.worker_crew.proofs.Ordering.{all_are_done}
use Rattle.worker_crew.proofs.Shares.{seat_count}
use Rattle.worker_crew.proofs.crew.run.Goals as goal

pub returns-in-Ok-in_order-clause-pieces : goal.returns-in-Ok-in_order-clause-pieces
returns-in-Ok-in_order-clause-pieces g c =
    let done = c.in-Ok-work_beside.ensures.done in
    let made = done.pieces in
    let seat = c.work_beside.new.seat in
    let count = seat_count c.in-Ok.claimer seat done.of_claimer ∙ (c.in-Ok.ensures.count ∙ c.chunks.ensures.count) in
    let each = c.all_shares_each_once.ensures (done.shares ∙ c.in-Ok.ensures.shares) made.1 in
    all_are_done (g.J.Job.says c.args.job.now c.work_beside.new.terms) seat.numbers (g.J.Job.count c.args.job.now) c.in-Ok-work_beside.pieces.items c.in-Ok-in_order.all.items made.0
    (subst (λ m. HasEachOnce m seat.numbers) count each) c.in-Ok-in_order.ensures
