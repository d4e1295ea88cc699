use Rattle.std.proofs.Common.{◌∙◌, refl}
use Rattle.rules_ite.proofs.ApartLemmas.{other_number, not_apart, apart_next, apart_all}
use Rattle.rules_ite.proofs.distinct.is_apart_from.Goals as goal

pub returns-then-others-literals-clause-apart : goal.returns-then-others-literals-clause-apart
returns-then-others-literals-clause-apart c t us ls first others literals =
    other_number c.args.symbols.now c.args.terms.now c.args.one c.args.others.now c.args.literals.now t us ls first others literals c.if-others-literals.true

pub loop-place-init : goal.loop-place-init
loop-place-init c = record { same = refl; left = λ t us ls first others literals. (λ h. h, λ h. h) }

pub returns-then-not-is_inequality-clause-apart : goal.returns-then-not-is_inequality-clause-apart
returns-then-not-is_inequality-clause-apart c t us ls first others literals =
    not_apart c.args.symbols.now c.args.terms.now c.args.one c.args.others.now c.args.literals.now t us ls first others literals
    c.loop-place.place c.get-other.result c.get-inequality.result c.is_inequality.result c.loop-place-test.true c.if-others-literals.false
    (rw c.get-other.ensures c.index-others-place.is) (rw c.get-inequality.ensures c.index-literals-place.is)
    (rw c.loop-place.invariant.same at c.is_inequality.ensures.inequality) c.if-not-is_inequality.true (c.loop-place.invariant.left t us ls first others literals)

pub loop-place-preserved : goal.loop-place-preserved
loop-place-preserved c = record {
  same = c.is_inequality.ensures.same ∙ c.loop-place.invariant.same;
  left = λ t us ls first others literals.
      apart_next c.args.symbols.now c.args.terms.now c.args.one c.args.others.now c.args.literals.now t us ls first others literals
      c.loop-place.place c.get-other.result c.get-inequality.result c.is_inequality.result c.loop-place-test.true c.if-others-literals.false
      (rw c.get-other.ensures c.index-others-place.is) (rw c.get-inequality.ensures c.index-literals-place.is)
      (rw c.loop-place.invariant.same at c.is_inequality.ensures.inequality) c.if-not-is_inequality.false (c.loop-place.invariant.left t us ls first others literals);
}

pub returns-clause-apart : goal.returns-clause-apart
returns-clause-apart c t us ls first others literals =
    apart_all c.args.symbols.now c.args.terms.now c.args.one c.args.others.now c.args.literals.now t us ls first others literals
    c.loop-place.place c.loop-place-test.false c.if-others-literals.false (c.loop-place.invariant.left t us ls first others literals)
