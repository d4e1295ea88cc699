use Rattle.std.proofs.Common.{length, eq-eqb, arith}
use Rattle.std.proofs.lemmas.Bool.{eqb-true}
use Rattle.rules_congruence.proofs.TurningLemmas.{iff_trans}
use Rattle.rules_congruence.proofs.UseLemmas.{used_length, used_next, used_none, used_end}
use Rattle.rules_congruence.proofs.using.are_used.Goals as goal
use Rattle.term_parts.proofs.PartLemmas.{false_is}

pub returns-then-lefts-rights : goal.returns-then-lefts-rights
returns-then-lefts-rights c = false_is (λ h. c.if-lefts-rights.true (used_length c.args.all c.args.pairs.now c.args.lefts.now c.args.rights.now h))

pub returns-in_default : goal.returns-in_default
returns-in_default c =
    let test = c.loop-place-test.true in
    let long = c.if-lefts-rights.false in
    false_is (used_none c.args.all c.args.pairs.now c.args.lefts.now c.args.rights.now c.loop-place.place c.item.result c.item-in-loop-place.result c.loop-place.used
    (omega arith) (omega arith) c.item.ensures c.item-in-loop-place.ensures c.in_default.ensures.other c.loop-place.invariant.1)

pub loop-place-preserved : goal.loop-place-preserved
loop-place-preserved c =
    let test = c.loop-place-test.true in
    let long = c.if-lefts-rights.false in (
      c.in-Some.ensures.within,
      used_next c.args.all c.args.pairs.now c.args.lefts.now c.args.rights.now c.loop-place.place c.item.result c.item-in-loop-place.result c.loop-place.used c.in-Some.more
          (omega arith) (omega arith) c.item.ensures c.item-in-loop-place.ensures c.in-Some.ensures.used c.loop-place.invariant.1,
    )

pub returns : goal.returns
returns c =
    let past = c.loop-place-test.false in
    let long = c.if-lefts-rights.false in
    iff_trans (eqb-true c.loop-place.used (length c.args.pairs.now), eq-eqb c.loop-place.used (length c.args.pairs.now))
    (used_end c.args.all c.args.pairs.now c.args.lefts.now c.args.rights.now c.loop-place.place c.loop-place.used (omega arith) (omega arith) c.loop-place.invariant.0 c.loop-place.invariant.1)
