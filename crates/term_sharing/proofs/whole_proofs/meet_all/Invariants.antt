use Rattle.std.proofs.Common.{◌≡◌}
use Rattle.term_sharing.specs.Marks.{AreUses}
use Rattle.term_sharing.proofs.whole_proofs.meet_all.Given as goal

abbrev pub invariant-terms : goal.invariant-terms
invariant-terms l = (l.terms ≡ l.fn.terms) × AreUses l.symbols l.fn.terms l.uses
