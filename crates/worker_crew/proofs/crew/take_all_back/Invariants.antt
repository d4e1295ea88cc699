use Rattle.std.proofs.Common.{◌≡◌, ◌+◌, ◌-◌, ◌≤◌, ℕ, length, All}
use Rattle.step_claimer.specs.Claims.{IsSeatOf}
use Rattle.term_pool.specs.Views.{TermsView}
use Rattle.worker_crew.specs.declared.worker.Worker.{Worker}
use Rattle.worker_crew.specs.Working.{IsDone, IsDoneByPart, with_shares}
use Rattle.worker_crew.proofs.crew.take_all_back.Given as goal

abbrev pub invariant-workers : goal.invariant-workers
invariant-workers g l = record {
  pool : l.terms.pool ≡ l.initial.terms.pool;
  of_claimer : IsSeatOf l.crew.claimer.now l.seat;
  fewer : length l.workers.items ≤ length l.initial.workers.items;
  left : All (λ (w : Worker g.row.J-Piece.Denot). (w.terms.pool ≡ l.initial.terms.pool) × IsSeatOf l.crew.claimer.now w.seat) l.workers.items;
  done :
      (start : TermsView) (k shares : ℕ) → 1 ≤ k →
      IsDone (g.J.Job.symbols l.crew.job.now) (g.J.Job.places l.crew.job.now) (g.J.Job.says l.crew.job.now) l.crew.claimer.now
      (with_shares start k) shares l.initial.terms l.initial.seat l.initial.made →
      All (λ (w : Worker g.row.J-Piece.Denot). IsDoneByPart (g.J.Job.symbols l.crew.job.now) (g.J.Job.places l.crew.job.now) (g.J.Job.says l.crew.job.now) l.crew.claimer.now start w.terms w.seat w.made) l.initial.workers.items →
      IsDone (g.J.Job.symbols l.crew.job.now) (g.J.Job.places l.crew.job.now) (g.J.Job.says l.crew.job.now) l.crew.claimer.now
      (with_shares start (k + (length l.initial.workers.items - length l.workers.items))) (shares + (length l.initial.workers.items - length l.workers.items)) l.terms l.seat l.made
      × All (λ (w : Worker g.row.J-Piece.Denot). IsDoneByPart (g.J.Job.symbols l.crew.job.now) (g.J.Job.places l.crew.job.now) (g.J.Job.says l.crew.job.now) l.crew.claimer.now start w.terms w.seat w.made) l.workers.items;
}

abbrev pub decreases-workers : goal.decreases-workers
decreases-workers g l = length l.workers.items
