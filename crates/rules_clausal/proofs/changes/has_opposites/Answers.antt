use Rattle.std.proofs.Common.{◌∙◌, refl, arith}
use Rattle.rules_clausal.proofs.OppositeLemmas.{opposite_there, none_more, none_at_all}
use Rattle.rules_clausal.proofs.changes.has_opposites.Goals as goal

pub loop-literal-init : goal.loop-literal-init
loop-literal-init c = record { same = refl; none = λ one ts h o k t below e there. absurd (omega (arith, below)) }

pub returns-then-negates_one-clause-opposites : goal.returns-then-negates_one-clause-opposites
returns-then-negates_one-clause-opposites c ts refer =
    let s = c.args.symbols.now in
    let v = c.args.terms.now in
    let one = c.equal_exactly_where_terms_are.ensures s c.leaves_differ.ensures.table in (
      λ e.
          opposite_there s v one c.args.clause.now c.args.sorted.now ts refer c.requires.order c.loop-literal.literal-index c.literal-item.result c.negates_one.result c.loop-literal-test.true c.literal-item.is
          (rw c.loop-literal.invariant.same at c.negates_one.ensures.negates) c.if-negates_one.true,
      λ h. refl,
    )

pub loop-literal-preserved : goal.loop-literal-preserved
loop-literal-preserved c = record {
  same = c.negates_one.ensures.same ∙ c.loop-literal.invariant.same;
  none = λ one ts h o.
      none_more c.args.symbols.now c.args.terms.now one c.args.clause.now c.args.sorted.now ts h o c.loop-literal.literal-index c.literal-item.result c.negates_one.result c.loop-literal-test.true c.literal-item.is
      (rw c.loop-literal.invariant.same at c.negates_one.ensures.negates) c.if-negates_one.false (c.loop-literal.invariant.none one ts h o);
}

pub returns-clause-opposites : goal.returns-clause-opposites
returns-clause-opposites c ts refer =
    let s = c.args.symbols.now in
    let v = c.args.terms.now in
    let one = c.equal_exactly_where_terms_are.ensures s c.leaves_differ.ensures.table in
    none_at_all s v one c.args.clause.now c.args.sorted.now ts refer c.requires.order c.loop-literal.literal-index c.loop-literal-test.false (c.loop-literal.invariant.none one ts refer c.requires.order)
