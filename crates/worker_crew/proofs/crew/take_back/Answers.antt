use Rattle.worker_crew.proofs.Doing.{both_done}
use Rattle.worker_crew.proofs.crew.take_back.Goals as goal

pub returns-clause-done : goal.returns-clause-done
returns-clause-done g c whole one other shares split h k =
    let job = c.args.crew.now.job.now in
    both_done (g.J.Job.symbols job) (g.J.Job.places job) c.more_may_be_known.ensures.places (g.J.Job.says job) c.more_may_be_known.ensures.says
    c.args.crew.now.claimer.now whole one other c.args.terms.now c.args.worker.terms c.join.new.self shares c.args.seat.now c.args.worker.seat
    c.join-2.new.seat c.args.made c.args.worker.made split c.join.ensures.joined h k c.join-2.ensures.of_claimer c.join-2.ensures.shares
    c.join-2.ensures.numbers c.join-2.ensures.ended c.both.result c.both.ensures.pieces c.both.ensures.refused
