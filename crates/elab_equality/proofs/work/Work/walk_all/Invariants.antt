use Rattle.elab_equality.proofs.WalkLemmas.{IsWalking}
use Rattle.elab_equality.proofs.work.Work.walk_all.Given as goal

abbrev pub invariant-way : goal.invariant-way
invariant-way l = IsWalking l.at l.fn.terms l.terms l.fn.self l.self l.walk.sides.items l.walk.used.items l.walk.from l.walk.to l.place l.links.items
