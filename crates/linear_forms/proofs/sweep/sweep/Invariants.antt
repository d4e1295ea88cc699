use Rattle.std.proofs.Common.{◌≤◌, length}
use Rattle.linear_forms.specs.Sweeps.{state, starting, IsSweeping}
use Rattle.linear_forms.proofs.sweep.sweep.Given as goal

abbrev pub invariant-nodes : goal.invariant-nodes
invariant-nodes l =
    (l.k ≤ length l.fn.nodes)
    × IsSweeping l.fn.nodes (starting l.fn.factors) (state l.factors l.constant l.found.items) l.k

abbrev pub decreases-nodes : goal.decreases-nodes
decreases-nodes l = l.k
