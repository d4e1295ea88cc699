use Rattle.std.proofs.Common.{take}
use Rattle.rules_resolution.specs.Standing.{Advances}
use Rattle.rules_resolution.specs.Work.{FalsifiesAll}
use Rattle.rules_resolution.proofs.follow.falsify_all.Given as goal

abbrev pub invariant-loop-literal : goal.invariant-loop-literal
invariant-loop-literal l =
    FalsifiesAll (take l.literal-index l.goal) l.table l.initial.work.marks.items l.initial.work.standings.items l.work.marks.items l.work.standings.items
    × Advances l.initial.work.standings.items l.work.standings.items l.initial.work.ready.items l.work.ready.items
