use Rattle.std.proofs.Common.{◌≡◌}
use Rattle.term_sharing.specs.Marks.{AreUses}
use Rattle.term_sharing.proofs.whole_proofs.proof_names.Given as goal

abbrev pub invariant-commands : goal.invariant-commands
invariant-commands l = (l.terms ≡ l.fn.terms) × AreUses l.symbols l.fn.terms l.uses
