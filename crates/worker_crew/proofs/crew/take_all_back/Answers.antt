use Rattle.std.proofs.Common.{◌≡◌, ◌+◌, ◌-◌, ◌++◌, ◌∷◌, [], ℕ, length, take, Some, refl, sym, ap, ◌∙◌, subst, arith}
use Rattle.std.proofs.lemmas.List.Elements.{All-pop}
use Rattle.std.proofs.lemmas.List.{length-append}
use Rattle.pair_pool.specs.Views.{IsForMany}
use Rattle.step_claimer.specs.Claims.{IsSeatOf}
use Rattle.worker_crew.specs.declared.worker.Worker.{Worker}
use Rattle.worker_crew.specs.Working.{IsDoneByPart, with_shares}
use Rattle.worker_crew.proofs.Shares.{renumbered}
use Rattle.worker_crew.proofs.crew.take_all_back.Goals as goal

pub workers-init : goal.workers-init
workers-init g c =
    let job = c.args.crew.now.job.now in
    let n = length c.args.workers.items in
    record {
      pool = refl;
      of_claimer = c.requires.seat;
      fewer = omega arith;
      left = c.requires.workers;
      done = λ start k shares some h each. (
        renumbered (g.J.Job.symbols job) (g.J.Job.places job) (g.J.Job.says job) c.args.crew.now.claimer.now start k (k + (n - n)) shares (shares + (n - n))
            c.args.terms.now c.args.seat.now c.args.made (let e : k ≡ k + (n - n) = omega arith in e) (let e : shares ≡ shares + (n - n) = omega arith in e) h,
        each,
      );
    }

pub take_back-made-requires-clause-for_many : goal.take_back-made-requires-clause-for_many
take_back-made-requires-clause-for_many g c κs within = subst IsForMany (sym c.workers.invariant.pool) c.requires.for_many

pub take_back-made-requires-clause-pool : goal.take_back-made-requires-clause-pool
take_back-made-requires-clause-pool g c κs within =
    let left = All-pop (λ (w : Worker g.row.J-Piece.Denot). (w.terms.pool ≡ c.args.terms.now.pool) × IsSeatOf c.args.crew.now.claimer.now w.seat)
    c.workers.workers.items c.pop.new.self.items (Some c.in-Some.worker) c.in-Some.ensures.items c.workers.invariant.left in
    left.1.0 ∙ sym c.workers.invariant.pool

pub take_back-made-requires-clause-seats : goal.take_back-made-requires-clause-seats
take_back-made-requires-clause-seats g c κs within =
    let left = All-pop (λ (w : Worker g.row.J-Piece.Denot). (w.terms.pool ≡ c.args.terms.now.pool) × IsSeatOf c.args.crew.now.claimer.now w.seat)
    c.workers.workers.items c.pop.new.self.items (Some c.in-Some.worker) c.in-Some.ensures.items c.workers.invariant.left in
    (c.workers.invariant.of_claimer, left.1.1)

pub workers-preserved : goal.workers-preserved
workers-preserved g c =
    let job = c.args.crew.now.job.now in
    let n = length c.args.workers.items in
    let m = length c.workers.workers.items in
    let l = length c.pop.new.self.items in
    let fewer = c.workers.invariant.fewer in
    let one : m ≡ l + 1 = ap length c.in-Some.ensures.items ∙ length-append c.pop.new.self.items (c.in-Some.worker ∷ []) in
    let left = All-pop (λ (w : Worker g.row.J-Piece.Denot). (w.terms.pool ≡ c.args.terms.now.pool) × IsSeatOf c.args.crew.now.claimer.now w.seat)
    c.workers.workers.items c.pop.new.self.items (Some c.in-Some.worker) c.in-Some.ensures.items c.workers.invariant.left in
    record {
      pool = c.take_back-made.ensures.pool ∙ c.workers.invariant.pool;
      of_claimer = c.take_back-made.ensures.seat;
      fewer = omega (arith, one, fewer);
      left = left.0;
      done = λ start k shares some h each.
          let before = c.workers.invariant.done start k shares some h each in
          let popped = All-pop (λ (w : Worker g.row.J-Piece.Denot). IsDoneByPart (g.J.Job.symbols job) (g.J.Job.places job) (g.J.Job.says job) c.args.crew.now.claimer.now start w.terms w.seat w.made)
          c.workers.workers.items c.pop.new.self.items (Some c.in-Some.worker) c.in-Some.ensures.items before.1 in
          let w = popped.1 in
          let step = c.take_back-made.ensures.done (with_shares start (k + (n - m) + 1)) (with_shares start (k + (n - m))) w.part (shares + (n - m)) (w.is_part (k + (n - m)) (omega (arith, some))) before.0 w.done in (
            renumbered (g.J.Job.symbols job) (g.J.Job.places job) (g.J.Job.says job) c.args.crew.now.claimer.now start (k + (n - m) + 1) (k + (n - l)) (shares + (n - m) + 1) (shares + (n - l))
                c.take_back-made.new.terms c.take_back-made.new.seat c.take_back-made.result (let e : k + (n - m) + 1 ≡ k + (n - l) = omega (arith, one, fewer) in e) (let e : shares + (n - m) + 1 ≡ shares + (n - l) = omega (arith, one, fewer) in e) step,
            popped.0,
          );
    }

pub returns : goal.returns
returns g c start k shares some h each =
    let job = c.args.crew.now.job.now in
    let n = length c.args.workers.items in
    let m = length c.workers.workers.items in
    let none : c.workers.workers.items ≡ [] = c.in_default.ensures.items ∙ ap (λ xs. xs ++ []) (c.in_default.ensures.rest ∙ ap (λ (i : ℕ). take (i - 1) c.workers.workers.items) c.in_default.ensures.cases.0) in
    let zero : m ≡ 0 = ap length none in
    renumbered (g.J.Job.symbols job) (g.J.Job.places job) (g.J.Job.says job) c.args.crew.now.claimer.now start (k + (n - m)) (k + n) (shares + (n - m)) (shares + n)
    c.workers.terms c.workers.seat c.workers.made (let e : k + (n - m) ≡ k + n = omega (arith, zero) in e) (let e : shares + (n - m) ≡ shares + n = omega (arith, zero) in e)
    (c.workers.invariant.done start k shares some h each).0
