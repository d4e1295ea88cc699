use Rattle.std.proofs.Common.{◌∙◌, sym, arith, below_more}
use Rattle.term_names.proofs.ScopeNames.{all_are_bound, one_is_not_bound}
use Rattle.term_names.proofs.looking_up.are_bound.Goals as goal

pub leaves-init : goal.leaves-init
leaves-init c = λ v p x h k below. absurd (omega arith)

pub leaves-preserved : goal.leaves-preserved
leaves-preserved c =
    λ v p x h.
    below_more _ _ (c.leaves.invariant v p x h) (λ here. sym (c.is_bound_here.ensures v p x h here) ∙ c.if-not-is_bound_here.false)

pub returns-then-not-is_bound_here : goal.returns-then-not-is_bound_here
returns-then-not-is_bound_here c =
    λ v p xs h free.
    sym (one_is_not_bound c.args.symbols.now p.scope c.args.leaves.now xs free c.leaves.leaf-index c.leaves-test.true
    (λ x here. sym c.if-not-is_bound_here.true ∙ c.is_bound_here.ensures v p x h here))

pub returns : goal.returns
returns c =
    λ v p xs h free.
    sym (all_are_bound c.args.symbols.now p.scope c.args.leaves.now xs free (λ x k below here. c.leaves.invariant v p x h k (omega arith) here))
