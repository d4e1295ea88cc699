use Rattle.std.proofs.Common.{◌≡◌, ◌-◌}
use Rattle.term_sharing.specs.Marks.{AreUses}
use Rattle.term_sharing.proofs.whole_proofs.open_to.Given as goal

abbrev pub invariant-scopes : goal.invariant-scopes
invariant-scopes l = (l.terms ≡ l.fn.terms) × AreUses l.symbols l.fn.terms l.uses

abbrev pub decreases-scopes : goal.decreases-scopes
decreases-scopes l = l.scope - l.next
