use Rattle.equality_steps.proofs.DeniedLemmas.{AreDenied}
use Rattle.equality_steps.proofs.clauses.add_denials.Given as goal

abbrev pub invariant-places : goal.invariant-places
invariant-places l = AreDenied l.at.symbols.now l.left l.right l.fn.terms l.terms l.fn.clause.items l.clause.items l.place
