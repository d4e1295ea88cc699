use Rattle.std.proofs.Common.{◌∙◌, refl}
use Rattle.schema_match.proofs.OneInstance.{one_found, not_here, none_left}
use Rattle.schema_match.proofs.instances.is_instance_of_one.Goals as goal

pub loop-schema-init : goal.loop-schema-init
loop-schema-init c = record { same = refl; left = λ of ps ts are premises clause h. h }

pub returns-then-branch-clause-instance : goal.returns-then-branch-clause-instance
returns-then-branch-clause-instance c of ps ts are premises clause =
    let test = rw c.loop-schema.invariant.same at c.in_ok-is_instance.ensures.instance in (
      λ e. one_found ps ts c.loop-schema.schema-index of c.args.schemas.now _ c.in_ok-is_instance.field-0 are c.loop-schema-test.true
          (λ schema has. test schema ps ts has premises clause) c.if-branch.true,
      λ h. refl,
    )

pub loop-schema-preserved : goal.loop-schema-preserved
loop-schema-preserved c = record {
  same = c.is_instance.ensures.same ∙ c.loop-schema.invariant.same;
  left = λ of ps ts are premises clause h.
      (let test = rw c.loop-schema.invariant.same at c.in_ok-is_instance.ensures.instance in
      not_here ps ts c.loop-schema.schema-index of c.args.schemas.now _ c.in_ok-is_instance.field-0 are c.loop-schema-test.true
      (λ schema has. test schema ps ts has premises clause) c.if-branch.false (c.loop-schema.invariant.left of ps ts are premises clause h));
}

pub returns-clause-instance : goal.returns-clause-instance
returns-clause-instance c of ps ts are premises clause =
    none_left ps ts c.loop-schema.schema-index of c.args.schemas.now are c.loop-schema-test.false (c.loop-schema.invariant.left of ps ts are premises clause)
