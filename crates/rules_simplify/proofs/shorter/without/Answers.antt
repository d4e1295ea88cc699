use Rattle.rules_simplify.proofs.ShorterLemmas.{left_out, kept_on, all_left}
use Rattle.rules_simplify.proofs.shorter.without.Goals as goal

pub loop-item-preserved-then-is_same : goal.loop-item-preserved-then-is_same
loop-item-preserved-then-is_same c =
    left_out c.args.left_out c.args.list.now c.loop-item.item-index c.item-item.result c.loop-item-test.true c.item-item.is c.is_same.result c.is_same.ensures
    c.loop-item.kept.items c.loop-item.invariant c.if-is_same.true

pub loop-item-preserved : goal.loop-item-preserved
loop-item-preserved c =
    kept_on c.args.left_out c.args.list.now c.loop-item.item-index c.item-item.result c.loop-item-test.true c.item-item.is c.is_same.result c.is_same.ensures
    c.loop-item.kept.items c.loop-item.invariant c.if-is_same.false c.push.new.self.items c.in_ok-push.ensures.items

pub returns : goal.returns
returns c = all_left c.args.left_out c.args.list.now c.loop-item.item-index c.loop-item.kept.items c.loop-item-test.false c.loop-item.invariant
