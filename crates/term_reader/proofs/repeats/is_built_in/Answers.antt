use Rattle.sym_table.specs.Words.{built_in_words}
use Rattle.term_reader.proofs.RepeatLemmas.{among_from_words}
use Rattle.term_reader.proofs.repeats.is_built_in.Goals as goal

pub returns : goal.returns
returns c = among_from_words built_in_words c.args.name.now c.is_built_in.result c.is_built_in.ensures.0 c.is_built_in.ensures.1
