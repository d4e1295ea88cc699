use Rattle.std.proofs.Math.Facts.{to_z-of_z}
use Rattle.term_reader.proofs.AtomLemmas.{number_is, number_low}
use Rattle.term_reader.proofs.Staying.{adds_numeral}
use Rattle.term_reader.proofs.atoms.number_value.Goals as goal

pub leaf-requires : goal.leaf-requires
leaf-requires c = number_low c.args.symbols.now c.numeral.new.self c.in_ok-leaf.leaf _ c.in_ok-leaf.ensures.found_or_new c.requires.room

pub returns-clause-value : goal.returns-clause-value
returns-clause-value c =
    number_is c.numeral.new.self c.leaf.result c.in_ok-leaf.leaf _ c.args.n c.leaf.ensures.number (to_z-of_z c.ranges.n) c.in_ok-leaf.ensures.leaf
    c.leaf.ensures.stands

pub returns-clause-symbols : goal.returns-clause-symbols
returns-clause-symbols c = adds_numeral c.args.symbols.now c.numeral.new.self c.in_ok-leaf.leaf _ c.in_ok-leaf.ensures.found_or_new c.numeral.ensures.keeps
