use Rattle.std.proofs.Common.{◌≡◌}
use Rattle.flip_keys.specs.Assertions.{references_of, AreAssertionsReady}
use Rattle.step_check.specs.Steps.{AreAssertedTo}
use Rattle.step_check.proofs.assumes.are_asserted.Given as goal

abbrev pub invariant-literals : goal.invariant-literals
invariant-literals l =
    (l.terms ≡ l.initial.terms)
    × (references_of l.asserted ≡ references_of l.initial.asserted)
    × AreAssertionsReady l.terms l.asserted
    × AreAssertedTo l.mode l.symbols l.initial.terms (references_of l.initial.asserted) l.clause l.r-index
