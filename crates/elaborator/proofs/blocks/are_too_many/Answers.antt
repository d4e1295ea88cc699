use Rattle.std.proofs.Common.{refl, ◌∙◌, ap, arith}
use Rattle.elaborator.specs.Blocks.{commands_for}
use Rattle.elaborator.proofs.BlockLists.{needed_enough, needed_taken}
use Rattle.elaborator.proofs.blocks.are_too_many.Goals as goal

pub returns-then-size-needed : goal.returns-then-size-needed
returns-then-size-needed c =
    let a = c.size_of-size.ensures ∙ ap commands_for c.deref.ensures.value in
    let b = c.each.invariant.0 in
    let d = c.if-size-needed.true in
    let e = c.each.invariant.1 in
    (λ told. needed_enough c.args.blocks.now c.each.block-index _ c.block-item.result c.each-test.true c.block-item.is (omega arith), λ most. refl)

pub each-preserved : goal.each-preserved
each-preserved c =
    let a = c.size_of-size.ensures ∙ ap commands_for c.deref.ensures.value in
    let b = c.each.invariant.0 in
    let d = c.if-size-needed.false in
    let e = c.each.invariant.1 in
    let next = needed_taken c.args.blocks.now c.each.block-index c.block-item.result c.each-test.true c.block-item.is in
    (omega arith, omega arith)
