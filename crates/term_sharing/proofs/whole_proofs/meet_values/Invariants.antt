use Rattle.std.proofs.Common.{◌≡◌}
use Rattle.term_sharing.specs.Marks.{AreUses}
use Rattle.term_sharing.proofs.whole_proofs.meet_values.Given as goal

abbrev pub invariant-bindings : goal.invariant-bindings
invariant-bindings l = (l.terms ≡ l.fn.terms) × AreUses l.symbols l.fn.terms l.uses
