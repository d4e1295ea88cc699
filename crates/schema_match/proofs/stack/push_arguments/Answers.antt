use Rattle.std.proofs.Common.{◌≡◌, ◌-◌, ◌∙◌, refl, subst, arith, rules}
use Rattle.schema_match.specs.Pushing.{AddsArguments}
use Rattle.schema_match.proofs.StackLemmas.{adds_none, has_argument, adds_more}
use Rattle.schema_match.proofs.stack.push_arguments.Goals as goal

pub arguments-init : goal.arguments-init
arguments-init c = record { same = refl; adds = adds_none c.args.terms.now c.args.r c.args.count c.args.stack.now.items }

pub nth_arg-requires : goal.nth_arg-requires
nth_arg-requires c =
    rw c.arguments.invariant.same
    (has_argument c.args.terms.now c.args.r c.args.count c.arguments.left (c.arguments.left - 1) (omega arith) c.arguments.invariant.adds.within refl c.requires)

pub arguments-preserved : goal.arguments-preserved
arguments-preserved c =
    let kept : c.nth_arg.new.self ≡ c.arguments.terms = search rules in record {
      same = kept ∙ c.arguments.invariant.same;
      adds =
          adds_more c.args.terms.now c.args.r c.args.count c.args.stack.now.items c.arguments.stack.items c.push.new.list.items c.arguments.left (c.arguments.left - 1) c.nth_arg.result
          (omega arith) refl c.in_ok-push.ensures (rw (kept, c.arguments.invariant.same) at c.nth_arg.ensures.argument) c.arguments.invariant.adds;
    }

pub returns-clause-pushed : goal.returns-clause-pushed
returns-clause-pushed c =
    let end : c.arguments.left ≡ 0 = omega arith in
    subst (λ n. AddsArguments c.args.terms.now c.args.r c.args.count n c.args.stack.now.items c.arguments.stack.items) end c.arguments.invariant.adds
