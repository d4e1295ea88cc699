use Rattle.bench_parts.specs.Applications.{KeepsReferences}
use Rattle.bench_parts.proofs.TermLemmas.{HasCount}
use Rattle.bench_parts.proofs.terms.read.Given as goal

abbrev pub invariant-arguments : goal.invariant-arguments
invariant-arguments l = HasCount l.symbols l.terms l.r l.count × KeepsReferences l.fn.terms l.terms
