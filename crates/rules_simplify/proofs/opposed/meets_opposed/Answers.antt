use Rattle.std.proofs.Common.{◌∙◌, refl}
use Rattle.rules_simplify.proofs.OpposedItems.{found, not_found, nowhere}
use Rattle.rules_simplify.proofs.OpposedLemmas.{noted_start}
use Rattle.rules_simplify.proofs.opposed.meets_opposed.Goals as goal

pub loop-item-init : goal.loop-item-init
loop-item-init c = record { same = refl; noted = λ ts refer. noted_start c.args.symbols.now c.args.terms.now _ _ c.requires.even c.requires.odd }

pub returns-then-branch-clause-opposed : goal.returns-then-branch-clause-opposed
returns-then-branch-clause-opposed c ts refer =
    let s = c.args.symbols.now in
    let v = c.args.terms.now in
    let one = c.equal_exactly_where_terms_are.ensures s c.leaves_differ.ensures.table in
    found s v c.args.list.now ts refer c.loop-item.item-index _ _ (c.loop-item.invariant.noted ts refer) one c.item-item.result c.strip-bare.result.0 c.strip-bare.result.1 _ _ _
    c.loop-item-test.true c.item-item.is (rw c.loop-item.invariant.same at c.strip-bare.ensures.stripped) c.in_ok-is_met_otherwise.ensures c.if-branch.true

pub loop-item-preserved : goal.loop-item-preserved
loop-item-preserved c = record {
  same = c.strip-bare.ensures.same ∙ c.loop-item.invariant.same;
  noted = λ ts refer.
      (let s = c.args.symbols.now in
      let v = c.args.terms.now in
      let one = c.equal_exactly_where_terms_are.ensures s c.leaves_differ.ensures.table in
      not_found s v c.args.list.now ts refer c.loop-item.item-index _ _ (c.loop-item.invariant.noted ts refer) one c.item-item.result c.strip-bare.result.0 c.strip-bare.result.1 _ _ _
      c.loop-item-test.true c.item-item.is (rw c.loop-item.invariant.same at c.strip-bare.ensures.stripped) c.in_ok-is_met_otherwise.ensures c.if-branch.false);
}

pub returns-clause-opposed : goal.returns-clause-opposed
returns-clause-opposed c ts refer =
    nowhere c.args.symbols.now c.args.terms.now c.args.list.now ts refer c.loop-item.item-index _ _ (c.loop-item.invariant.noted ts refer) c.loop-item-test.false
