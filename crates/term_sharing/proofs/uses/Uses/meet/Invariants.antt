use Rattle.std.proofs.Common.{◌≡◌, ◌+◌, ◌-◌, ◌*◌, ◌^◌, vec_len}
use Rattle.term_sharing.specs.Marks.{met, AreUses}
use Rattle.term_sharing.proofs.uses.Uses.meet.Given as goal

abbrev pub invariant-left : goal.invariant-left
invariant-left l = (l.terms ≡ l.fn.terms) × AreUses l.symbols l.fn.terms l.self

abbrev pub decreases-left : goal.decreases-left
decreases-left l = (2 ^ 64 - met l.self.marks.items) * 2 ^ 64 + vec_len l.self.left
