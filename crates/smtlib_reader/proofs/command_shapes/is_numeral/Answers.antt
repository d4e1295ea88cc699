-- A word is a numeral exactly where that is its kind.
use Rattle.smtlib_reader.proofs.NumeralWords.{by_kind, by_none}
use Rattle.smtlib_reader.proofs.command_shapes.is_numeral.Goals as goal

pub returns-in-Some : goal.returns-in-Some
returns-in-Some c = by_kind c.args.word.now c.in-Some.kind c.is_numeral_kind.result c.in-Some.ensures c.is_numeral_kind.ensures

pub returns-in-None : goal.returns-in-None
returns-in-None c = by_none c.args.word.now c.in-None.ensures
