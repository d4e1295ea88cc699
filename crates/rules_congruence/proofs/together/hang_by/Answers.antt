use Rattle.std.proofs.Common.{◌↔◌, inl, List, IsTrue, refl}
use Rattle.rule_model.specs.Congruence.{AreLinked}
use Rattle.term_model.specs.Terms.{Term}
use Rattle.rules_congruence.specs.Applications.{AreApplied}
use Rattle.rules_congruence.specs.Links.{TellsSides}
use Rattle.rules_congruence.specs.Sides.{IsGiven}
use Rattle.rules_congruence.specs.declared.uses.Uses.{Uses}
use Rattle.rules_congruence.proofs.Options.{if_ok}
use Rattle.rules_congruence.proofs.StrictLemmas.{differences_linked}
use Rattle.rules_congruence.proofs.TailLemmas.{linked_cut}
use Rattle.rules_congruence.proofs.TogetherLemmas.{sides_told, differing_by}
use Rattle.rules_congruence.proofs.together.hang_by.Goals as goal

pub returns-then-are_in_order-clause-together : goal.returns-then-are_in_order-clause-together
returns-then-are_in_order-clause-together c ps t u given a = (
  λ e. inl ((linked_cut c.args.symbols.now c.args.terms.now Uses.Any c.args.both.now.left.items c.args.both.now.right.items a.ts a.us a.cut ps).0
      (differences_linked ps a.cut.prefix a.cut.others
      ((differing_by c.args.symbols.now c.args.terms.now (c.equal_exactly_where_terms_are.ensures c.args.symbols.now c.leaves_differ.ensures.table)
      c.args.given.now.pairs.items c.args.given.now.only ps c.args.both.now.left.items c.args.both.now.right.items a.cut.prefix a.cut.others given a.cut.left a.cut.right).0
      (c.are_in_order.ensures.0 c.if-are_in_order.true)))),
  λ h. refl,
)

pub returns-clause-together : goal.returns-clause-together
returns-clause-together c =
    let s = c.args.symbols.now in
    let v = c.args.terms.now in
    if_ok (λ yes. (ps : List (List Term)) (t u : Term) → TellsSides s v c.in_ok-links.links.items ps → (a : AreApplied s v Uses.Any c.args.both.now.head c.args.both.now.left.items c.args.both.now.right.items t u) → IsTrue yes ↔ AreLinked a.head ps a.ts a.us)
    (λ yes. (ps : List (List Term)) (t u : Term) → IsGiven s v c.args.given.now.pairs.items c.args.given.now.only ps → (a : AreApplied s v Uses.Any c.args.both.now.head c.args.both.now.left.items c.args.both.now.right.items t u) → IsTrue yes ↔ AreLinked a.head ps a.ts a.us)
    c.hang.result
    (λ yes h ps t u given a. h ps t u
    (sides_told s v (c.equal_exactly_where_terms_are.ensures s c.leaves_differ.ensures.table) c.args.given.now.pairs.items c.args.given.now.only ps c.in_ok-links.links.items given (rw c.deref.ensures at c.in_ok-links.ensures)) a)
    (rw c.deref-2.ensures.value at c.hang.ensures.linked)
