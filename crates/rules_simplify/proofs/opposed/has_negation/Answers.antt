use Rattle.std.proofs.Common.{List, ℕ, subst, sym}
use Rattle.term_pool.specs.Views.{ReferToAll}
use Rattle.rules_simplify.proofs.OpposedItems.{negation_there}
use Rattle.rules_simplify.proofs.opposed.has_negation.Goals as goal

pub returns-then-has-clause-opposed : goal.returns-then-has-clause-opposed
returns-then-has-clause-opposed c e ts refer =
    let s = c.args.symbols.now in
    let v = c.args.terms.now in
    let one = c.equal_exactly_where_terms_are.ensures s c.leaves_differ.ensures.table in
    negation_there s v c.items-item-items.result.now ts (subst (λ (rs : List ℕ). ReferToAll s v rs ts) (sym c.items-item-items.ensures) refer) one
    c.loop-item.item-index c.item-item.result c.in-Some.inner c.loop-item-test.true c.item-item.is (rw c.loop-item.invariant at c.in-Some.ensures.under)
    (rw (← c.items-item-items.ensures) at (c.has.ensures.0 c.if-has.true))
