use Rattle.std.proofs.Common.{◌-◌, length}
use Rattle.sexpr.specs.Source.{source, position}
use Rattle.smtlib_reader.specs.Sessions.{session_in}
use Rattle.smtlib_reader.proofs.ScriptLoop.{IsUnderWay}
use Rattle.smtlib_reader.proofs.script_reading.read_commands.Given as goal

abbrev pub invariant-commands : goal.invariant-commands
invariant-commands l = IsUnderWay l.fn.lexer l.fn.symbols l.fn.terms (session_in l.fn.settings l.fn.session) l.lexer l.symbols l.terms (session_in l.settings l.session)

abbrev pub decreases-commands : goal.decreases-commands
decreases-commands l = length (source l.fn.lexer) - position l.lexer
