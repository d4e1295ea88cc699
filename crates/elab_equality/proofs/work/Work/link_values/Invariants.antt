use Rattle.elab_equality.proofs.ClosingLemmas.{IsBinding}
use Rattle.elab_equality.proofs.work.Work.link_values.Given as goal

abbrev pub invariant-places : goal.invariant-places
invariant-places l = IsBinding l.at l.fn.terms l.terms l.fn.self l.self l.values l.images l.place l.links.items
