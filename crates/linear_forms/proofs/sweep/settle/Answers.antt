use Rattle.std.proofs.Common.{◌≡◌, ◌≢◌, ◌∙◌, ap, pos, FitsSigned, of_z, rules}
use Rattle.std.proofs.lemmas.Int.{to_z-of_z}
use Rattle.linear_forms.specs.Sweeps.{node_at, factor_at, state}
use Rattle.linear_forms.proofs.Sweeping.{turn_room, node_any}
use Rattle.linear_forms.proofs.sweep.settle.Goals as goal

pub pass_on-requires : goal.pass_on-requires
pass_on-requires c =
    let fits : FitsSigned mir.Syntax.w128 c.take-factor.result = search rules in
    let node : c.node-item.result ≡ node_at c.args.nodes.now c.args.k =
    c.node-item.is ∙ node_any c.args.nodes.now c.args.k _ _ c.requires.there in
    let other : factor_at c.args.factors.now c.args.k ≢ pos 0 =
    λ e. c.if-factor-eq0.false (ap (of_z mir.Syntax.w128) (c.take-factor.ensures.factor ∙ e)) in
    rw (to_z-of_z _ _ fits, c.take-factor.ensures.left, c.take-factor.ensures.factor, node)
    (turn_room c.args.nodes.now c.args.k (state c.args.factors.now c.args.constant.now c.args.found.now.items) c.requires other)
