use Rattle.std.proofs.Common.{take}
use Rattle.chain_plan.specs.Contradicting.{AreMarks}
use Rattle.chain_plan.proofs.opposites.marks_of.Given as goal

abbrev pub invariant-literals : goal.invariant-literals
invariant-literals l = AreMarks l.spellings (take l.literal-index l.goal) l.marks.items
