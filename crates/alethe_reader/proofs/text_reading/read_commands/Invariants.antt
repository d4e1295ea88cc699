use Rattle.std.proofs.Common.{◌-◌, length}
use Rattle.sexpr.specs.Source.{source, position}
use Rattle.alethe_reader.proofs.TextLoop.{IsUnderWay}
use Rattle.alethe_reader.proofs.text_reading.read_commands.Given as goal

abbrev pub invariant-commands : goal.invariant-commands
invariant-commands l = IsUnderWay l.settings l.fn.lexer l.fn.symbols l.fn.terms l.fn.session l.lexer l.symbols l.terms l.session

abbrev pub decreases-commands : goal.decreases-commands
decreases-commands l = length (source l.fn.lexer) - position l.lexer
