use Rattle.std.proofs.Common.{◌≡◌, ◌∙◌, sym, subst, refl, arith, true}
use Rattle.std.specs.Prelude.{is_ok}
use Rattle.worker_crew.specs.Working.{AreDone}
use Rattle.worker_crew.proofs.Parts.{extends_of, no_work, work_then}
use Rattle.worker_crew.proofs.Doing.{done_none, done_one, no_err_is_ok}
use Rattle.worker_crew.proofs.worker.work.Goals as goal

pub chunks-init : goal.chunks-init
chunks-init g c = record {
  work = no_work _ _ _ _ refl;
  fits = c.requires.ready.can;
  kept = tt;
  of_claimer = c.requires.ready.of_claimer;
  shares = refl;
  done = done_none _ _ _ c.requires.ready.fresh c.new-pieces.ensures.items;
}

pub claim-requires : goal.claim-requires
claim-requires g c = record { of_claimer = c.chunks.invariant.of_claimer }

pub returns-in-Err : goal.returns-in-Err
returns-in-Err g c =
    record {
      done =
          record {
            work = work_then _ _ c.more_may_be_known.ensures.places _ _ _ c.chunks.invariant.work c.do_next.ensures.work;
            of_claimer = c.claim.ensures.of_claimer;
            shares = c.claim.ensures.shares ∙ c.chunks.invariant.shares;
            pieces = tt;
            full = c.in-Err.ensures.full;
          };
    }

pub returns-then-is_err : goal.returns-then-is_err
returns-then-is_err g c =
    record {
      done =
          record {
            work = work_then _ _ c.more_may_be_known.ensures.places _ _ _ c.chunks.invariant.work c.do_next.ensures.work;
            of_claimer = c.claim.ensures.of_claimer;
            shares = c.claim.ensures.shares ∙ c.chunks.invariant.shares;
            pieces = tt;
            full = λ e. absurd cc;
          };
    }

pub chunks-smaller : goal.chunks-smaller
chunks-smaller g c =
    let inside = c.in-Some.ensures.number.0 in
    let old = c.in-Some.ensures.further.0 in
    let new = c.in-Some.ensures.further.1 in
    omega (arith, inside, old, new)

pub chunks-preserved : goal.chunks-preserved
chunks-preserved g c =
    let job = c.args.crew.now.job.now in
    let went : is_ok c.push.result ≡ true = no_err_is_ok c.push.result (sym c.is_err.ensures.value ∙ c.if-is_err.false) in
    let more = extends_of c.chunks.terms c.do_next.new.terms c.do_next.ensures.work.keeps in
    record {
      work = work_then _ _ c.more_may_be_known.ensures.places _ _ _ c.chunks.invariant.work c.do_next.ensures.work;
      fits = c.more_may_be_known.ensures.fits c.chunks.terms c.do_next.new.terms more c.chunks.invariant.fits;
      kept = c.in-Ok.ensures.kept;
      of_claimer = c.claim.ensures.of_claimer;
      shares = c.claim.ensures.shares ∙ c.chunks.invariant.shares;
      done =
          done_one (g.J.Job.says job c.chunks.terms) (g.J.Job.says job c.do_next.new.terms) c.chunks.seat.numbers c.claim.new.seat.numbers
          c.chunks.pieces.items c.push.new.self.items c.in-Some.k c.in-Ok.piece
          (λ n q e. c.more_may_be_known.ensures.says c.chunks.terms c.do_next.new.terms n q more e) c.chunks.invariant.done
          c.in-Ok.ensures.says c.in-Some.ensures.number.1 (rw went at c.push.ensures.items);
    }

pub returns : goal.returns
returns g c =
    let job = c.args.crew.now.job.now in
    let last = c.in_default.ensures.ended in
    record {
      done =
          record {
            work = c.chunks.invariant.work;
            of_claimer = c.claim.ensures.of_claimer;
            shares = c.claim.ensures.shares ∙ c.chunks.invariant.shares;
            pieces = (subst (λ ns. AreDone (g.J.Job.says job c.chunks.terms) ns c.chunks.pieces.items) (sym last.1) c.chunks.invariant.done, last.0);
            full = tt;
          };
    }
