use Rattle.std.proofs.Common.{◌≡◌, ◌+◌, ◌-◌, ◌≤◌, ◌++◌, List, length, get_or, take, drop, sym, ◌∙◌, ap, subst, refl, arith}
use Rattle.std.proofs.lemmas.List.{take_at}
use Rattle.std.proofs.lemmas.List.Elements.{All-same}
use Rattle.worker_crew.specs.declared.worker.Worker.{Worker}
use Rattle.worker_crew.specs.Pieces.{Extends}
use Rattle.worker_crew.specs.Working.{IsDone, IsDoneByPart, with_shares}
use Rattle.worker_crew.proofs.Shares.{own_shares, renumbered, shares_extend}
use Rattle.worker_crew.proofs.crew.work_beside.Goals as goal

pub work-made-requires-clause-ready : goal.work-made-requires-clause-ready
work-made-requires-clause-ready g c κs within =
    let more = subst (λ v. Extends c.args.terms.now v) (sym c.add_workers.ensures.terms) (shares_extend c.args.terms.now (c.args.terms.now.pass.shares - c.args.count)) in
    record {
      can = c.more_may_be_known.ensures.fits c.args.terms.now c.add_workers.new.terms more c.requires.ready.can;
      numbers = c.requires.ready.numbers;
      of_claimer = c.add_workers.ensures.seat.0;
      fresh = c.add_workers.ensures.seat.1;
    }

pub returns : goal.returns
returns g c =
    let job = c.args.crew.now.job.now in
    let start = c.args.terms.now in
    let k = start.pass.shares - c.args.count in
    let m = c.args.seat.now.shares - c.args.count in
    let room = c.requires.shares.0 in
    let some : 1 ≤ k = omega (arith, room) in
    let h = subst (λ v. IsDone (g.J.Job.symbols job) (g.J.Job.places job) (g.J.Job.says job) c.args.crew.now.claimer.now v c.add_workers.new.seat.shares c.work-made.new.terms c.work-made.new.seat c.work-made.result) c.add_workers.ensures.terms c.work-made.ensures.done in
    let h2 = subst (λ z. IsDone (g.J.Job.symbols job) (g.J.Job.places job) (g.J.Job.says job) c.args.crew.now.claimer.now (with_shares start k) z c.work-made.new.terms c.work-made.new.seat c.work-made.result) c.add_workers.ensures.seat.2 h in
    let before = c.add_workers.new.workers.items in
    let after = c.set_all_to_work.new.workers in
    let same : length after ≡ length c.deref_mut.result.now = c.set_all_to_work.auto.workers in
    let lent : length c.deref_mut.result.now ≡ length before = ap length c.deref_mut.ensures.value in
    let back = take c.add_workers.new.workers.len (after ++ drop (length after) before) in
    let all : back ≡ after = take_at after (drop (length after) before) c.add_workers.new.workers.len (same ∙ c.deref_mut.ensures.len) in
    let long : length back ≡ c.args.count = ap length all ∙ (same ∙ (lent ∙ c.add_workers.ensures.count)) in
    let seats = c.requires.shares.1 in
    let whole = c.take_all_back.ensures start k m some h2
    (All-same (λ (w : Worker g.row.J-Piece.Denot). IsDoneByPart (g.J.Job.symbols job) (g.J.Job.places job) (g.J.Job.says job) c.args.crew.now.claimer.now start w.terms w.seat w.made) back after all
    (λ i d below.
    let new = c.add_workers.ensures.workers i d (omega (arith, below, same, lent)) in
    let did = subst (λ (ws : List (Worker g.row.J-Piece.Denot)). IsDone (g.J.Job.symbols job) (g.J.Job.places job) (g.J.Job.says job) c.args.crew.now.claimer.now (get_or ws i d).terms (get_or ws i d).seat.shares (get_or after i d).terms (get_or after i d).seat (get_or after i d).made)
    c.deref_mut.ensures.value (c.set_all_to_work.ensures i d (omega (arith, below, same))) in
    record {
      part = (get_or before i d).terms;
      is_part = new.part;
      done = subst (λ z. IsDone (g.J.Job.symbols job) (g.J.Job.places job) (g.J.Job.says job) c.args.crew.now.claimer.now (get_or before i d).terms z (get_or after i d).terms (get_or after i d).seat (get_or after i d).made) new.share did;
    })) in
    let counted = renumbered (g.J.Job.symbols job) (g.J.Job.places job) (g.J.Job.says job) c.args.crew.now.claimer.now start (k + length back) start.pass.shares (m + length back) c.args.seat.now.shares
    c.take_all_back.new.terms c.take_all_back.new.seat c.take_all_back.result
    (let e : k + length back ≡ start.pass.shares = omega (arith, long, room) in e) (let e : m + length back ≡ c.args.seat.now.shares = omega (arith, long, seats) in e) whole in
    record {
      done =
          subst (λ v. IsDone (g.J.Job.symbols job) (g.J.Job.places job) (g.J.Job.says job) c.args.crew.now.claimer.now v c.args.seat.now.shares c.take_all_back.new.terms c.take_all_back.new.seat c.take_all_back.result)
          (sym (own_shares start start.pass.shares refl)) counted;
    }
