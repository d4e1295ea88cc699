use Rattle.std.proofs.Common.{length, arith, ap, refl}
use Rattle.elab_equality.proofs.AddLemmas.{add_crossed, add_matched, crossed_as, crossed_twos, linked_as, matched_as, twos_are, twos_long}
use Rattle.elab_equality.proofs.DoneLemmas.{done_more}
use Rattle.elab_equality.proofs.GivenLemmas.{false_then, true_then}
use Rattle.elab_equality.proofs.WorkLemmas.{done_memory}
use Rattle.elab_equality.specs.Matching.{AreCrossedArguments, AreMatchedArguments}
use Rattle.elab_equality.proofs.work.Work.add.Goals as goal

pub are_matched-requires-clause-linked : goal.are_matched-requires-clause-linked
are_matched-requires-clause-linked c =
    linked_as c.args.at.now c.args.terms.now c.deref.result.now c.deref-2.result.now c.args.x.now.lefts.items c.args.x.now.rights.items c.deref.ensures.value
    c.deref-2.ensures.value c.requires.applications.linked

pub returns-in_err-matched-clause-done : goal.returns-in_err-matched-clause-done
returns-in_err-matched-clause-done c =
    rw c.in_err-matched.ensures.same
    (done_memory c.args.at.now c.args.terms.now c.args.self.now c.args.self.now _ c.from_residual.result c.from_residual.ensures.1)

pub match_all-requires-clause-work : goal.match_all-requires-clause-work
match_all-requires-clause-work c = rw c.in_ok-matched.ensures.same c.requires.work

pub match_all-requires-clause-given : goal.match_all-requires-clause-given
match_all-requires-clause-given c = rw c.in_ok-matched.ensures.same c.requires.given

pub match_all-requires-clause-matched : goal.match_all-requires-clause-matched
match_all-requires-clause-matched c =
    let p = c.args.at.now in
    let v = c.args.terms.now in
    rw c.in_ok-matched.ensures.same
    (add_matched p v c.requires.job c.requires.rule c.requires.work.block.site c.args.x.now c.requires.applications _ refl refl c.deref-then-matched.ensures.value c.deref-then-matched-2.ensures.value
    (matched_as p v c.deref.result.now c.deref-2.result.now c.args.x.now.lefts.items c.args.x.now.rights.items c.deref.ensures.value c.deref-2.ensures.value
    (true_then c.in_ok-matched.matched (AreMatchedArguments p v c.deref.result.now c.deref-2.result.now) c.if-matched.true c.in_ok-matched.ensures.matched)))

pub returns-then-matched-clause-done : goal.returns-then-matched-clause-done
returns-then-matched-clause-done c =
    let same = ap length c.deref-then-matched.ensures.value in
    done_more c.args.at.now c.args.terms.now c.match_all.new.terms c.args.self.now c.match_all.new.self _ _ c.match_all.result (omega (arith, same))
    (rw c.in_ok-matched.ensures.same at c.match_all.ensures.done)

pub cross-requires-clause-work : goal.cross-requires-clause-work
cross-requires-clause-work c = rw c.in_ok-matched.ensures.same c.requires.work

pub cross-requires-clause-given : goal.cross-requires-clause-given
cross-requires-clause-given c = rw c.in_ok-matched.ensures.same c.requires.given

pub index-requires-2 : goal.index-requires-2
index-requires-2 c =
    let p = c.args.at.now in
    let v = c.args.terms.now in
    let t = crossed_twos p v c.requires.job c.requires.rule c.requires.work.block.site c.args.x.now c.requires.applications
    (crossed_as p v c.deref.result.now c.deref-2.result.now c.args.x.now.lefts.items c.args.x.now.rights.items c.deref.ensures.value c.deref-2.ensures.value
    (false_then c.in_ok-matched.matched (AreCrossedArguments p v c.deref.result.now c.deref-2.result.now) c.if-matched.false c.in_ok-matched.ensures.crossed)) in
    let long = twos_long p v c.requires.job c.requires.rule c.requires.work.block.site c.args.x.now c.requires.applications t in
    let here = long.0 in
    omega (arith, here)

pub index-requires-4 : goal.index-requires-4
index-requires-4 c =
    let p = c.args.at.now in
    let v = c.args.terms.now in
    let t = crossed_twos p v c.requires.job c.requires.rule c.requires.work.block.site c.args.x.now c.requires.applications
    (crossed_as p v c.deref.result.now c.deref-2.result.now c.args.x.now.lefts.items c.args.x.now.rights.items c.deref.ensures.value c.deref-2.ensures.value
    (false_then c.in_ok-matched.matched (AreCrossedArguments p v c.deref.result.now c.deref-2.result.now) c.if-matched.false c.in_ok-matched.ensures.crossed)) in
    let long = twos_long p v c.requires.job c.requires.rule c.requires.work.block.site c.args.x.now c.requires.applications t in
    let here = long.1 in
    omega (arith, here)

pub cross-requires-clause-crossed : goal.cross-requires-clause-crossed
cross-requires-clause-crossed c =
    let p = c.args.at.now in
    let v = c.args.terms.now in
    let t = crossed_twos p v c.requires.job c.requires.rule c.requires.work.block.site c.args.x.now c.requires.applications
    (crossed_as p v c.deref.result.now c.deref-2.result.now c.args.x.now.lefts.items c.args.x.now.rights.items c.deref.ensures.value c.deref-2.ensures.value
    (false_then c.in_ok-matched.matched (AreCrossedArguments p v c.deref.result.now c.deref-2.result.now) c.if-matched.false c.in_ok-matched.ensures.crossed)) in
    let are = twos_are p v c.requires.job c.requires.rule c.requires.work.block.site c.args.x.now c.requires.applications t c.index.result.now c.index-2.result.now
    c.index-3.result.now c.index-4.result.now c.index.ensures c.index-2.ensures c.index-3.ensures c.index-4.ensures in
    rw c.in_ok-matched.ensures.same
    (add_crossed p v c.requires.job c.requires.rule c.requires.work.block.site c.args.x.now c.requires.applications _ refl refl
    (crossed_as p v c.deref.result.now c.deref-2.result.now c.args.x.now.lefts.items c.args.x.now.rights.items c.deref.ensures.value c.deref-2.ensures.value
    (false_then c.in_ok-matched.matched (AreCrossedArguments p v c.deref.result.now c.deref-2.result.now) c.if-matched.false c.in_ok-matched.ensures.crossed)) are.0 are.1)

pub returns-clause-done : goal.returns-clause-done
returns-clause-done c =
    let p = c.args.at.now in
    let v = c.args.terms.now in
    let t = crossed_twos p v c.requires.job c.requires.rule c.requires.work.block.site c.args.x.now c.requires.applications
    (crossed_as p v c.deref.result.now c.deref-2.result.now c.args.x.now.lefts.items c.args.x.now.rights.items c.deref.ensures.value c.deref-2.ensures.value
    (false_then c.in_ok-matched.matched (AreCrossedArguments p v c.deref.result.now c.deref-2.result.now) c.if-matched.false c.in_ok-matched.ensures.crossed)) in
    let long = twos_long p v c.requires.job c.requires.rule c.requires.work.block.site c.args.x.now c.requires.applications t in
    let here = long.0 in
    done_more p v c.cross.new.terms c.args.self.now c.cross.new.self _ _ c.cross.result (omega (arith, here)) (rw c.in_ok-matched.ensures.same at c.cross.ensures.done)
