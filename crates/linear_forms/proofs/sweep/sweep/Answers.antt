use Rattle.std.proofs.Common.{◌≡◌, ◌-◌, suc, to_z, subst, arith}
use Rattle.std.proofs.lemmas.Int.{to_z-of_z}
use Rattle.linear_forms.specs.Sweeps.{state, starting, IsSweeping}
use Rattle.linear_forms.proofs.Sweeping.{settled_sweeps, sweep_ends, sweep_fits}
use Rattle.linear_forms.proofs.sweep.sweep.Goals as goal

pub nodes-preserved : goal.nodes-preserved
nodes-preserved c =
    let now = state c.nodes.factors (to_z mir.Syntax.w128 c.nodes.constant-bits) c.nodes.found.items in
    let new = state c.settle.new.factors c.settle.new.constant c.settle.new.found.items in
    let one : c.nodes.k ≡ suc (c.nodes.k - 1) = omega (arith, c.nodes-test.true) in
    let sweeping = subst (IsSweeping c.args.nodes.now (starting c.args.factors.now) now) one c.nodes.invariant.1 in
    let swept : IsSweeping c.args.nodes.now (starting c.args.factors.now) new (c.nodes.k - 1) =
    settled_sweeps c.args.nodes.now (starting c.args.factors.now) now (c.nodes.k - 1) sweeping c.requires.room.ordered
    (omega (arith, one, c.nodes.invariant.0)) new c.in_ok-settle.ensures in
    rw (to_z-of_z _ _ (sweep_fits c.args.nodes.now c.args.factors.now new (c.nodes.k - 1) c.requires.room swept))
    (omega (arith, c.nodes.invariant.0), swept)

pub returns : goal.returns
returns c =
    sweep_ends c.args.nodes.now c.args.factors.now (state c.nodes.factors (to_z mir.Syntax.w128 c.nodes.constant-bits) c.nodes.found.items) c.nodes.k
    (omega (arith, c.nodes-test.false)) c.nodes.invariant.1
