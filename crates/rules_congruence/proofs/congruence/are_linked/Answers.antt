use Rattle.std.proofs.Common.{◌∙◌, refl, subst, arith}
use Rattle.term_pool.specs.Views.{IsTerm}
use Rattle.rule_model.specs.Congruence.{IsLinked}
use Rattle.rules_congruence.proofs.CongruenceLemmas.{not_as_long, not_linked_at, linked_more, linked_all}
use Rattle.rules_congruence.proofs.congruence.are_linked.Goals as goal
use Rattle.term_parts.proofs.PartLemmas.{false_is}

pub returns-then-lefts-rights-clause-linked : goal.returns-then-lefts-rights-clause-linked
returns-then-lefts-rights-clause-linked c ps ts us tells left right =
    false_is (not_as_long c.args.symbols.now c.args.terms.now (IsLinked ps) c.args.lefts.now c.args.rights.now ts us c.if-lefts-rights.true left right)

pub returns-then-not-branch-clause-linked : goal.returns-then-not-branch-clause-linked
returns-then-not-branch-clause-linked c ps ts us tells left right =
    let test = c.loop-place-test.true in
    false_is (not_linked_at c.args.symbols.now c.args.terms.now (IsLinked ps) c.args.lefts.now c.args.rights.now ts us c.loop-place.place c.item.result c.item-in-loop-place.result c.in_ok-is_linked.field-0
    (omega arith) c.if-lefts-rights.false c.item.ensures c.item-in-loop-place.ensures left right
    (λ t u one other. (rw c.loop-place.invariant.0 at c.in_ok-is_linked.ensures.linked) ps t u tells one other) c.if-not-branch.true)

pub loop-place-preserved : goal.loop-place-preserved
loop-place-preserved c = (
  c.is_linked.ensures.same ∙ c.loop-place.invariant.0,
  λ ps k t u tells below left right.
      linked_more c.args.symbols.now c.args.terms.now (IsLinked ps) c.args.lefts.now c.args.rights.now c.loop-place.place c.item.result c.item-in-loop-place.result k t u c.item.ensures c.item-in-loop-place.ensures below
      (λ under. c.loop-place.invariant.1 ps k t u tells under left right)
      (λ x y one other. ((rw c.loop-place.invariant.0 at c.in_ok-is_linked.ensures.linked) ps x y tells one other).0 c.if-not-branch.false) left right,
)

pub returns-clause-linked : goal.returns-clause-linked
returns-clause-linked c ps ts us tells left right =
    let past = c.loop-place-test.false in (
      λ e. linked_all c.args.symbols.now c.args.terms.now (IsLinked ps) c.args.lefts.now c.args.rights.now ts us c.if-lefts-rights.false left right
          (λ k t u below one other. c.loop-place.invariant.1 ps k t u tells (omega arith) one other),
      λ h. refl,
    )

pub is_linked-requires-clause-left : goal.is_linked-requires-clause-left
is_linked-requires-clause-left c =
    let test = c.loop-place-test.true in
    rw c.loop-place.invariant.0
    (subst (IsTerm c.args.symbols.now c.args.terms.now) (c.item.ensures 0) (c.requires.lefts c.loop-place.place 0 (omega arith)))

pub is_linked-requires-clause-right : goal.is_linked-requires-clause-right
is_linked-requires-clause-right c =
    let test = c.loop-place-test.true in
    let long = c.if-lefts-rights.false in
    rw c.loop-place.invariant.0
    (subst (IsTerm c.args.symbols.now c.args.terms.now) (c.item-in-loop-place.ensures 0) (c.requires.rights c.loop-place.place 0 (omega arith)))
