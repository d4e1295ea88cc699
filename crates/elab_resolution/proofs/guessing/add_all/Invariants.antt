use Rattle.std.proofs.Common.{◌≡◌}
use Rattle.elab_resolution.proofs.guessing.add_all.Given as goal

abbrev pub invariant-literals : goal.invariant-literals
invariant-literals l = l.terms ≡ l.fn.terms
