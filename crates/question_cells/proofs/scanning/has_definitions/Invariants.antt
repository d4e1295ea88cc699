use Rattle.std.proofs.Common.{◌-◌, length}
use Rattle.sexpr.specs.Source.{source, position}
use Rattle.question_cells.proofs.TokensLeft.{IsScanned}
use Rattle.question_cells.proofs.scanning.has_definitions.Given as goal

abbrev pub invariant-tokens : goal.invariant-tokens
invariant-tokens l = IsScanned l.fn.text l.lexer l.opened

abbrev pub decreases-tokens : goal.decreases-tokens
decreases-tokens l = length (source l.lexer) - position l.lexer
