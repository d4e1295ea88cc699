use Rattle.std.proofs.Common.{refl}
use Rattle.std.specs.Fmt.{digits}
use Rattle.sexpr.specs.Characters.{is_word_byte, is_mark}
use Rattle.rule_model.specs.Replacement.{free_variables, free_among, free_bound}
use Rattle.hole_fillers.proofs.laws.questions_are_spelled.Goals as goal

pub returns-clause-contradiction : goal.returns-clause-contradiction
unfolding free_variables free_among free_bound digits is_word_byte is_mark
returns-clause-contradiction c = refl

pub returns-clause-bound : goal.returns-clause-bound
unfolding free_variables free_among free_bound digits is_word_byte is_mark
returns-clause-bound c = refl
