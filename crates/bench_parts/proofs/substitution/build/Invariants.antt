use Rattle.std.proofs.Common.{All, length, ◌≤◌}
use Rattle.term_pool.specs.Views.{IsTerm}
use Rattle.bench_parts.proofs.substitution.build.Given as goal

abbrev pub invariant-terms : goal.invariant-terms
invariant-terms l =
    All (IsTerm l.symbols l.terms) l.built.items × (1 ≤ length l.built.items) × IsTerm l.symbols l.terms l.last
