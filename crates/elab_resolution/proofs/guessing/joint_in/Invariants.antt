use Rattle.std.proofs.Common.{◌≡◌}
use Rattle.elab_resolution.proofs.guessing.joint_in.Given as goal

abbrev pub invariant-literals : goal.invariant-literals
invariant-literals l = l.terms ≡ l.fn.terms
