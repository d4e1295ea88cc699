use Rattle.std.proofs.Common.{take}
use Rattle.equality_steps.specs.Joined.{AddsOthers, IsFirsts}
use Rattle.equality_steps.proofs.firsts.add_others.Given as goal

abbrev pub invariant-literals : goal.invariant-literals
invariant-literals l = IsFirsts l.firsts × AddsOthers l.other l.fn.firsts.literals.items (take l.literal-index l.clause) l.firsts.literals.items
