use Rattle.std.proofs.Common.{◌≢◌, [], ◌+◌, ◌*◌, ◌≤◌, drop, length, refl, sym, subst, arith}
use Rattle.elab_denials.specs.Owing.{AreRepairable, IsOwing}
use Rattle.elab_denials.proofs.Results.{handed_on}
use Rattle.elab_denials.proofs.SettleLemmas.{drop_next, drop_past, drop_there, nothing_owed, repairable_later, repairable_rest, tail_whole}
use Rattle.elab_denials.proofs.WorkLemmas.{done_more, done_none, done_then, went_none, went_then}
use Rattle.elab_denials.proofs.repairing.repaired.Goals as goal

pub places-init : goal.places-init
places-init c = record {
  went = went_none c.args.at.now c.args.terms.now c.args.terms.now refl;
  done = done_none c.args.at.now c.args.terms.now c.args.work.now 0 c.requires.work;
  owing = c.requires.owing;
}

pub settled-requires-clause-work : goal.settled-requires-clause-work
settled-requires-clause-work c = c.places.invariant.done.work

pub settled-requires-clause-some : goal.settled-requires-clause-some
settled-requires-clause-some c =
    let pairs = c.args.owed.pairs.now in
    subst (λ xs. xs ≢ []) (sym (tail_whole pairs c.places.place)) (drop_there pairs c.places.place c.places-test.true)

pub settled-requires-clause-owing : goal.settled-requires-clause-owing
settled-requires-clause-owing c =
    let pairs = c.args.owed.pairs.now in
    subst (IsOwing c.args.at.now c.places.terms c.places.work.block c.places.last) (sym (tail_whole pairs c.places.place)) c.places.invariant.owing

pub settled-requires-clause-repairable : goal.settled-requires-clause-repairable
settled-requires-clause-repairable c =
    let pairs = c.args.owed.pairs.now in
    subst (AreRepairable c.args.at.now c.places.terms c.args.owed.table.now) (sym (tail_whole pairs c.places.place))
    (repairable_rest c.args.at.now c.places.terms c.args.owed.table.now pairs c.places.place
    (repairable_later c.args.at.now c.args.terms.now c.places.terms c.places.invariant.went.keeps c.args.owed.table.now pairs c.requires.repairable))

pub returns-in_err-last-clause-went : goal.returns-in_err-last-clause-went
returns-in_err-last-clause-went c =
    went_then c.args.at.now c.args.terms.now c.places.terms c.settled.new.terms c.places.invariant.went c.in_err-last.ensures.went

pub returns-in_err-last-clause-full : goal.returns-in_err-last-clause-full
returns-in_err-last-clause-full c = handed_on c.from_residual.result _ _ c.from_residual.ensures.1 c.in_err-last.ensures.full

pub places-preserved : goal.places-preserved
places-preserved c =
    let low : 4 * c.places.place + 4 ≤ 4 * (c.places.place + 1) = omega arith in
    record {
      went = went_then c.args.at.now c.args.terms.now c.places.terms c.settled.new.terms c.places.invariant.went c.in_ok-last.ensures.went;
      done = done_then c.args.at.now c.settled.new.terms c.places.terms c.args.work.now c.places.work c.settled.new.work (4 * c.places.place) 4
          (4 * (c.places.place + 1)) low c.places.invariant.done c.in_ok-last.ensures.done;
      owing = subst (IsOwing c.args.at.now c.settled.new.terms c.settled.new.work.block c.in_ok-last.last) (drop_next c.args.owed.pairs.now c.places.place)
          (subst (λ xs. IsOwing c.args.at.now c.settled.new.terms c.settled.new.work.block c.in_ok-last.last (drop 1 xs))
          (tail_whole c.args.owed.pairs.now c.places.place) c.in_ok-last.ensures.owing);
    }

pub returns-clause-given : goal.returns-clause-given
returns-clause-given c =
    nothing_owed c.args.at.now c.places.terms c.places.work.block c.places.last
    (subst (IsOwing c.args.at.now c.places.terms c.places.work.block c.places.last)
    (drop_past c.args.owed.pairs.now c.places.place (λ less. let past = c.places-test.false in omega arith)) c.places.invariant.owing)

pub returns-clause-done : goal.returns-clause-done
returns-clause-done c =
    let low : 4 * c.places.place ≤ 4 * length c.args.owed.pairs.now = omega arith in
    done_more c.args.at.now c.places.terms c.args.work.now c.places.work (4 * c.places.place) (4 * length c.args.owed.pairs.now) low c.places.invariant.done

pub returns-clause-went : goal.returns-clause-went
returns-clause-went c = c.places.invariant.went
