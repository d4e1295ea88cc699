use Rattle.std.proofs.Common.{sym, ◌∙◌, subst}
use Rattle.clause_chain.specs.Adding.{AddsOthers}
use Rattle.clause_chain.proofs.Alone.{joined_one}
use Rattle.clause_chain.proofs.Joining.{joined_in_list}
use Rattle.clause_chain.proofs.pairs.join_to.Goals as goal

pub returns : goal.returns
returns c =
    let left = c.args.left.now in
    let right = c.args.right.now in
    let middle = c.add_others.new.list.items in
    let joined =
    joined_in_list left right middle c.add_others-2.new.list.items c.args.taken.0 c.args.taken.1
    (c.stands_in.ensures.0 c.if-not-stands_in.false) (c.stands_in-else-not-stands_in.ensures.0 c.if-not-stands_in-2.false)
    (subst (λ l. AddsOthers c.args.taken.0 l left middle) c.clear.ensures.items c.in_ok-add_others.ensures) c.in_ok-add_others-2.ensures in (
      λ yes. rw (sym (c.are_same.ensures.0 yes) ∙ c.deref.ensures.value) joined,
      λ h. c.are_same.ensures.1 (c.deref.ensures.value ∙ joined_one left right c.args.taken.0 c.args.taken.1 _ c.args.clause.now joined h),
    )
