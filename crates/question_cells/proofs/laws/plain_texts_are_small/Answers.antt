use Rattle.question_cells.proofs.FewCells.{plain_script}
use Rattle.question_cells.proofs.laws.plain_texts_are_small.Goals as goal

pub returns-clause-cells : goal.returns-clause-cells
returns-clause-cells c = λ text script stands none. (plain_script c.tokens_are_spelled.ensures.spelled text script stands none).cells

pub returns-clause-macros : goal.returns-clause-macros
returns-clause-macros c = λ text script stands none. (plain_script c.tokens_are_spelled.ensures.spelled text script stands none).macros

pub returns-clause-named : goal.returns-clause-named
returns-clause-named c = λ text script stands none. (plain_script c.tokens_are_spelled.ensures.spelled text script stands none).named

pub returns-clause-assertions : goal.returns-clause-assertions
returns-clause-assertions c = λ text script stands none. (plain_script c.tokens_are_spelled.ensures.spelled text script stands none).assertions
