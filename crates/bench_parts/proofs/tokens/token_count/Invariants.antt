use Rattle.std.proofs.Common.{◌-◌, ◌≤◌, length}
use Rattle.sexpr.specs.Source.{source, position}
use Rattle.bench_parts.proofs.tokens.token_count.Given as goal

abbrev pub invariant-tokens : goal.invariant-tokens
invariant-tokens l = l.count ≤ position l.lexer

abbrev pub decreases-tokens : goal.decreases-tokens
decreases-tokens l = length (source l.lexer) - position l.lexer
