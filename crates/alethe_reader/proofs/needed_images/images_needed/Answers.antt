-- One leaf after another.
use Rattle.std.proofs.Common.{arith, ◌∙◌, ap, subst, map, take, List, ℕ}
use Rattle.std.proofs.lemmas.List.{take_all}
use Rattle.alethe_reader.specs.NeededImages.{AreImagesOf}
use Rattle.alethe_reader.proofs.NeededImages.{needs_none, none_needed, not_needed, one_needed}
use Rattle.alethe_reader.proofs.needed_images.images_needed.Goals as goal
use Rattle.alethe_reader.proofs.needed_images.images_needed.Goals.{in-Some+in_ok-push, in_default}

pub returns-then-outer-eq0-clause-needed : goal.returns-then-outer-eq0-clause-needed
returns-then-outer-eq0-clause-needed c =
    rw c.new.ensures.items (needs_none _ _ _ (take c.args.outer c.args.bound.now.images.items) _ c.one_to_one.ensures c.requires.known (ap (λ n. take n c.args.bound.now.images.items) c.if-outer-eq0.true))

pub references-init : goal.references-init
references-init c = rw c.new-needed.ensures.items (none_needed _ _ _)

pub references-preserved : goal.references-preserved
references-preserved c =
    elim c.match-image_of_leaf.branch [
      | in-Some+in_ok-push w ↦ rw (w.needed-is, w.in_ok-push.ensures.items) (one_needed _ _ _ c.as_slice-reference-items.result.now c.references.reference-index 0 c.references-test.true c.references.needed.items c.references.invariant _ w.in-Some.ensures)
      | in_default w ↦ rw w.needed-is (not_needed _ _ _ c.as_slice-reference-items.result.now c.references.reference-index 0 c.references-test.true c.references.needed.items c.references.invariant w.in_default.ensures)
    ]

pub returns-clause-needed : goal.returns-clause-needed
returns-clause-needed c = record {
  leaves = c.in_ok-met.met.keys;
  among = c.in_ok-met.ensures.leaves;
  are =
      subst (λ (ks : List ℕ). AreImagesOf c.args.symbols.now (map (λ u. u.id) c.args.bound.now.names.used) (take c.args.outer c.args.bound.now.images.items) ks c.references.needed.items)
      (take_all c.references.reference-index c.as_slice-reference-items.result.now (omega (arith, c.references-test.false)) ∙ c.as_slice-reference-items.ensures.keys) c.references.invariant;
}
