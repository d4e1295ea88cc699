use Rattle.std.proofs.Common.{All}
use Rattle.term_pool.specs.Views.{IsTerm}
use Rattle.bench_parts.proofs.terms.view.Given as goal

abbrev pub invariant-terms : goal.invariant-terms
invariant-terms l = All (IsTerm l.symbols l.terms) l.built
