use Rattle.std.proofs.Common.{refl, ◌∙◌, ◌≡◌, false, arith}
use Rattle.std.proofs.lemmas.List.{take_more}
use Rattle.contexts.proofs.HidingLeaves.{free_start, free_more, free_skip}
use Rattle.contexts.proofs.hiding.add_free.Goals as goal

pub leaves-init : goal.leaves-init
leaves-init c = (refl, free_start _ _ _ _ refl)

pub leaves-preserved : goal.leaves-preserved
leaves-preserved c = (
  c.stands_free.ensures.same ∙ c.leaves.invariant.0,
  free_more _ _ _ _ _ _ _ _ c.leaves.invariant.1 (take_more c.args.leaves.now c.leaves.leaf-index 0 c.leaves-test.true) c.in_ok-push.ensures.items,
)

pub leaves-preserved-then-not-branch : goal.leaves-preserved-then-not-branch
leaves-preserved-then-not-branch c =
    let no : c.in_ok-stands_free.field-0 ≡ false = grind arith in (
      c.stands_free.ensures.same ∙ c.leaves.invariant.0,
      free_skip _ _ _ _ _ _ _ c.leaves.invariant.1 (take_more c.args.leaves.now c.leaves.leaf-index 0 c.leaves-test.true)
          (λ t known f. let yes = ((rw c.leaves.invariant.0 at c.in_ok-stands_free.ensures.exact) t known).1 f in absurd cc),
    )
