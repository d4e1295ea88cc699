use Rattle.std.proofs.Common.{refl, ◌≡◌, [], false, arith}
use Rattle.std.proofs.lemmas.List.{take_more}
use Rattle.contexts.proofs.HidingLeaves.{hidden_start, hidden_more, hidden_skip}
use Rattle.contexts.proofs.hiding.newly_hidden.Goals as goal

pub leaves-init : goal.leaves-init
leaves-init c = hidden_start _ _ [] _ _ refl c.new-new.ensures.items

pub leaves-preserved-then-not-is_new : goal.leaves-preserved-then-not-is_new
leaves-preserved-then-not-is_new c =
    let no : c.is_new.result ≡ false = grind arith in
    hidden_skip _ _ _ _ _ _ c.leaves.invariant (take_more c.args.leaves.now c.leaves.leaf-index 0 c.leaves-test.true) (c.is_new.ensures no)

pub leaves-preserved : goal.leaves-preserved
leaves-preserved c =
    hidden_more _ _ _ _ _ _ _ c.leaves.invariant (take_more c.args.leaves.now c.leaves.leaf-index 0 c.leaves-test.true) c.in_ok-push.ensures.items
