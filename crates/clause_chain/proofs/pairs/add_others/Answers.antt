use Rattle.std.proofs.Common.{take, get_or, false, inl, inr}
use Rattle.std.proofs.lemmas.List.{take_more}
use Rattle.clause_chain.proofs.Joining.{added_same, added_other}
use Rattle.clause_chain.proofs.Keys.{of, signed_tells}
use Rattle.clause_chain.proofs.pairs.add_others.Goals as goal

pub items-preserved : goal.items-preserved
items-preserved c =
    let before = take c.items.item-index c.args.items.now in
    let item = get_or c.args.items.now c.items.item-index (of 0 false) in
    rw (take_more c.args.items.now c.items.item-index (of 0 false) c.items-test.true)
    (elim (signed_tells item c.args.but) [
      | inl same ↦
          rw (c.in_ok-add_other.ensures.same same.1)
          (added_same c.args.but c.args.list.now.items before c.items.list.items item c.items.invariant same.1)
      | inr other ↦
          added_other c.args.but c.args.list.now.items before c.items.list.items item c.add_other.new.list.items c.items.invariant other.1
          (c.in_ok-add_other.ensures.other other.1)
    ])
