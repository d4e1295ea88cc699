use Rattle.std.proofs.Common.{◌≡◌, ◌+◌, ◌-◌, ◌∷◌, [], ◌∙◌, ap, length, sym, subst, arith}
use Rattle.std.proofs.lemmas.List.{length-append}
use Rattle.std.proofs.lemmas.List.Elements.{All-nil, All-push, All-same}
use Rattle.pair_pool.specs.Views.{IsForMany}
use Rattle.worker_crew.specs.declared.worker.Worker.{Worker}
use Rattle.worker_crew.specs.Working.{IsNewWorker, with_shares}
use Rattle.worker_crew.proofs.Shares.{own_shares, part_grows, part_of, part_pool, split_once}
use Rattle.worker_crew.proofs.crew.add_workers.Goals as goal

pub workers-init : goal.workers-init
workers-init g c = record {
  long = ap length c.requires.none;
  room = c.requires.room;
  terms = own_shares c.args.terms.now (c.args.terms.now.pass.shares - 0) (let e : c.args.terms.now.pass.shares ≡ c.args.terms.now.pass.shares - 0 = omega arith in e);
  of_claimer = c.requires.seat.0;
  fresh = c.requires.seat.1;
  shares = omega arith;
  each = All-same (λ (w : Worker g.row.P.Denot). IsNewWorker c.args.terms.now c.args.claimer.now w.terms w.seat) c.args.workers.now.items _ c.requires.none (All-nil _);
}

pub worker_with-worker-requires-clause-for_many : goal.worker_with-worker-requires-clause-for_many
worker_with-worker-requires-clause-for_many g c = subst IsForMany (sym (ap (λ v. v.pool) c.workers.invariant.terms)) c.requires.for_many

pub worker_with-worker-requires-clause-shares : goal.worker_with-worker-requires-clause-shares
worker_with-worker-requires-clause-shares g c =
    let e : c.workers.terms.pass.shares ≡ c.args.terms.now.pass.shares - c.workers.counter = ap (λ v. v.pass.shares) c.workers.invariant.terms in
    let f = c.workers.invariant.shares in
    let a = c.requires.shares.0 in
    let b = c.requires.shares.1 in
    let t = c.workers-test.true in
    (omega (arith, e, a, t), omega (arith, f, b, t))

pub workers-preserved : goal.workers-preserved
workers-preserved g c =
    let start = c.args.terms.now in
    let n = start.pass.shares - c.workers.counter in
    let old = c.workers.terms in
    let new = c.worker_with-worker.new.terms in
    let worker = c.worker_with-worker.result in
    let made = c.worker_with-worker.ensures in
    let part = part_of start old new worker.terms n c.workers.invariant.terms made.halves in
    let split : new ≡ with_shares start (n - 1) = split_once start old new worker.terms n c.workers.invariant.terms made.halves in
    let fewer : n - 1 ≡ start.pass.shares - (c.workers.counter + 1) = omega arith in
    let more : length c.push.new.self.items ≡ length c.workers.workers.items + 1 = ap length c.in-Ok.ensures.items ∙ length-append c.workers.workers.items (worker ∷ []) in
    let long = c.workers.invariant.long in
    let room = c.workers.invariant.room in
    let grown = c.in-Ok.ensures.capacity in
    let before = c.workers.invariant.shares in
    let after = made.seat.2 in
    record {
      long = omega (arith, more, long);
      room = omega (arith, room, grown);
      terms = subst (λ m. new ≡ with_shares start m) fewer split;
      of_claimer = made.seat.0;
      fresh = made.seat.1;
      shares = omega (arith, before, after);
      each =
          All-same (λ (w : Worker g.row.P.Denot). IsNewWorker start c.args.claimer.now w.terms w.seat) c.push.new.self.items _ c.in-Ok.ensures.items
          (All-push (λ (w : Worker g.row.P.Denot). IsNewWorker start c.args.claimer.now w.terms w.seat) c.workers.workers.items worker c.workers.invariant.each
          (record {
            part = part;
            pool = part_pool start worker.terms part;
            known = part_grows start worker.terms part;
            of_claimer = made.worker.0;
            fresh = made.worker.1;
            share = made.worker.2;
          }));
    }
