use Rattle.std.proofs.Common.{◌∙◌}
use Rattle.term_pool.specs.Views.{RefersTo}
use Rattle.rules_congruence.proofs.GivenLemmas.{not_denials, denied_next}
use Rattle.term_model.proofs.Zips.{zip_length}
use Rattle.rules_congruence.proofs.sides.denied.Goals as goal

pub returns-in_default-clause-other : goal.returns-in_default-clause-other
returns-in_default-clause-other c ts refer sides =
    not_denials c.args.symbols.now c.args.terms.now c.args.literals.now c.loop-literal.literal-index _ ts sides c.loop-literal-test.true c.literal-item.is
    (zip_length (RefersTo c.args.symbols.now c.args.terms.now) c.args.literals.now ts refer) refer
    (rw c.loop-literal.invariant.0 at c.in_default.ensures.other)

pub loop-literal-preserved : goal.loop-literal-preserved
loop-literal-preserved c = (
  c.denied_sides.ensures.same ∙ c.loop-literal.invariant.0,
  c.loop-literal.invariant.1,
  rw c.in_ok-push.ensures
      (denied_next c.args.symbols.now c.args.terms.now c.args.literals.now c.loop-literal.literal-index _ c.loop-literal.given.pairs.items c.in-Some.sides
      c.loop-literal-test.true c.literal-item.is c.loop-literal.invariant.2 (rw c.loop-literal.invariant.0 at c.in-Some.ensures.sides)),
)
