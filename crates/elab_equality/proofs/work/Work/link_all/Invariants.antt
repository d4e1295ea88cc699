use Rattle.elab_equality.proofs.LoopLemmas.{IsLinking}
use Rattle.elab_equality.proofs.work.Work.link_all.Given as goal

abbrev pub invariant-places : goal.invariant-places
invariant-places l = IsLinking l.at l.fn.terms l.terms l.fn.self l.self l.lefts l.rights l.place l.links.items
