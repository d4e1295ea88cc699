use Rattle.std.proofs.Common.{◌≡◌, ◌-◌, ◌≤◌, [], length, All}
use Rattle.std.specs.Prelude.{vec_capacity}
use Rattle.step_claimer.specs.Claims.{IsSeatOf}
use Rattle.worker_crew.specs.declared.worker.Worker.{Worker}
use Rattle.worker_crew.specs.Working.{IsNewWorker, with_shares}
use Rattle.worker_crew.proofs.crew.add_workers.Given as goal

abbrev pub invariant-workers : goal.invariant-workers
invariant-workers g l = record {
  long : length l.workers.items ≡ l.counter;
  room : l.count ≤ vec_capacity l.workers;
  terms : l.terms ≡ with_shares l.initial.terms (l.initial.terms.pass.shares - l.counter);
  of_claimer : IsSeatOf l.claimer l.seat;
  fresh : l.seat.numbers ≡ [];
  shares : l.seat.shares ≡ l.initial.seat.shares - l.counter;
  each : All (λ (w : Worker g.row.P.Denot). IsNewWorker l.initial.terms l.claimer w.terms w.seat) l.workers.items;
}
