use Rattle.std.proofs.Common.{◌≡◌, length, arith}
use Rattle.term_names.proofs.BoundVariables.{leaf_is_bound_here, puts_none, puts_one_more, puts_all}
use Rattle.term_names.proofs.using.bounds_of.Goals as goal

pub leaves-init : goal.leaves-init
leaves-init c = λ v p xs h free bound. rw c.new-bounds.ensures.items (puts_none c.args.symbols.now v p.scope c.args.leaves.now)

pub bound_here-requires : goal.bound_here-requires
bound_here-requires c =
    leaf_is_bound_here c.args.symbols.now c.args.names.now.scope c.args.leaves.now c.requires c.leaves.leaf-index c.leaves-test.true

pub leaves-preserved : goal.leaves-preserved
leaves-preserved c =
    λ v p xs h free bound.
    rw c.in_ok-push.ensures.items
    (puts_one_more c.args.symbols.now v c.leaves.bounds.items p.scope c.args.leaves.now c.leaves.leaf-index c.bound_here.result xs free bound c.leaves-test.true
    (λ x here is. c.bound_here.ensures v p x h here is) (c.leaves.invariant v p xs h free bound))

pub returns : goal.returns
returns c =
    λ v p xs h free bound.
    let whole : c.leaves.leaf-index ≡ length c.args.leaves.now = omega arith in
    puts_all c.args.symbols.now v c.leaves.bounds.items p.scope c.args.leaves.now xs c.leaves.leaf-index whole free (c.leaves.invariant v p xs h free bound)
