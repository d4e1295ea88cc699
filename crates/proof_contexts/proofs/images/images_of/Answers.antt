use Rattle.std.proofs.Common.{◌≡◌, ◌∙◌, length, subst, arith}
use Rattle.std.specs.List.{AllZip}
use Rattle.contexts.proofs.Results.{handed_on}
use Rattle.term_pool.specs.Bindings.{IsBindingOf}
use Rattle.rule_model.specs.Contexts.{put_in_each}
use Rattle.term_pool.proofs.Keeping.{terms-trans}
use Rattle.proof_contexts.proofs.ImageLists.{bind_next, taken_all}
use Rattle.proof_contexts.proofs.ImageSteps.{images_next, placed_next, lacks_next}
use Rattle.proof_contexts.proofs.images.images_of.Goals as goal

pub image_of-requires-clause-binding : goal.image_of-requires-clause-binding
image_of-requires-clause-binding c =
    bind_next c.args.symbols.now c.args.terms.now c.bindings.terms c.bindings.invariant.keeps c.args.anchor.now c.bindings.binding-index c.binding-item.result c.requires.anchor c.bindings-test.true c.binding-item.is

pub returns-in_err-image-clause-placed : goal.returns-in_err-image-clause-placed
returns-in_err-image-clause-placed c =
    placed_next c.substitutions_stay.ensures.bindings c.args.symbols.now c.args.terms.now c.bindings.terms c.image_of.new.terms c.args.outer.now c.bindings.outer c.bindings.invariant.keeps c.bindings.invariant.same c.args.anchor.now c.bindings.binding-index c.binding-item.result c.bindings-test.true c.binding-item.is
    c.image_of.ensures.keeps c.image_of.ensures.placed c.bindings.invariant.placed

pub returns-in_err-image-clause-full : goal.returns-in_err-image-clause-full
returns-in_err-image-clause-full c =
    handed_on c.from_residual.result _ _ c.from_residual.ensures.1
    (λ is.
    lacks_next c.substitutions_stay.ensures.bindings c.args.symbols.now c.args.terms.now c.bindings.terms c.image_of.new.terms c.args.outer.now c.bindings.outer c.bindings.invariant.keeps c.bindings.invariant.same c.args.anchor.now c.bindings.binding-index c.binding-item.result c.bindings-test.true c.binding-item.is
    (c.in_err-image.ensures.full is))

pub returns-in_err-push-clause-placed : goal.returns-in_err-push-clause-placed
returns-in_err-push-clause-placed c =
    placed_next c.substitutions_stay.ensures.bindings c.args.symbols.now c.args.terms.now c.bindings.terms c.image_of.new.terms c.args.outer.now c.bindings.outer c.bindings.invariant.keeps c.bindings.invariant.same c.args.anchor.now c.bindings.binding-index c.binding-item.result c.bindings-test.true c.binding-item.is
    c.image_of.ensures.keeps c.image_of.ensures.placed c.bindings.invariant.placed

pub bindings-preserved : goal.bindings-preserved
bindings-preserved c = record {
  keeps = terms-trans _ _ _ c.bindings.invariant.keeps c.image_of.ensures.keeps;
  right = c.image_of.ensures.right;
  same = c.image_of.ensures.same ∙ c.bindings.invariant.same;
  images = λ q bound stand zip.
      rw c.in_ok-push.ensures.items
      (images_next c.substitutions_stay.ensures.bindings c.args.symbols.now c.args.terms.now c.bindings.terms c.image_of.new.terms c.args.outer.now c.bindings.outer c.bindings.invariant.keeps c.bindings.invariant.same c.args.anchor.now c.bindings.binding-index c.binding-item.result c.bindings-test.true c.binding-item.is
      c.image_of.ensures.keeps c.bindings.list.items c.in_ok-image.image c.in_ok-image.ensures.image c.bindings.invariant.images q bound stand zip);
  placed =
      placed_next c.substitutions_stay.ensures.bindings c.args.symbols.now c.args.terms.now c.bindings.terms c.image_of.new.terms c.args.outer.now c.bindings.outer c.bindings.invariant.keeps c.bindings.invariant.same c.args.anchor.now c.bindings.binding-index c.binding-item.result c.bindings-test.true c.binding-item.is
      c.image_of.ensures.keeps c.image_of.ensures.placed c.bindings.invariant.placed;
}

pub returns-clause-images : goal.returns-clause-images
returns-clause-images c q bound stand zip =
    let all : c.bindings.binding-index ≡ length c.args.anchor.now = omega arith in
    subst (λ xs. AllZip (IsBindingOf c.args.symbols.now c.bindings.terms) c.bindings.list.items (put_in_each q xs))
    (taken_all c.args.symbols.now c.args.terms.now c.args.anchor.now bound c.bindings.binding-index zip all)
    (c.bindings.invariant.images q bound stand zip)
