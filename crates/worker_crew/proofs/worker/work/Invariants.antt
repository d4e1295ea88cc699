use Rattle.std.proofs.Common.{◌≡◌, ◌-◌}
use Rattle.std.specs.Prelude.{IfSome}
use Rattle.step_claimer.specs.Claims.{IsSeatOf}
use Rattle.worker_crew.specs.Working.{AreDone, IsWork}
use Rattle.worker_crew.proofs.worker.work.Given as goal

abbrev pub invariant-chunks : goal.invariant-chunks
invariant-chunks g l = record {
  work : IsWork (g.J.Job.symbols l.crew.job.now) (g.J.Job.places l.crew.job.now) l.initial.terms l.terms;
  fits : g.J.Job.fits l.crew.job.now l.terms;
  kept : IfSome l.kept (g.J.Job.is_kept l.crew.job.now l.terms);
  of_claimer : IsSeatOf l.crew.claimer.now l.seat;
  shares : l.seat.shares ≡ l.initial.seat.shares;
  done : AreDone (g.J.Job.says l.crew.job.now l.terms) l.seat.numbers l.pieces.items;
}

abbrev pub decreases-chunks : goal.decreases-chunks
decreases-chunks g l = l.crew.claimer.now.count - l.seat.past
