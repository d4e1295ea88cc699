use Rattle.judged_texts.proofs.CellSums.{more_in_sum}
use Rattle.judged_texts.proofs.TermsOfTexts.{among_both, among_needed, among_problem, among_read}
use Rattle.judged_texts.proofs.laws.full_pools_have_many_cells.Goals as goal

pub returns-clause-both : goal.returns-clause-both
returns-clause-both c = λ text options proof n sc items others placed more nested behind stands has.
    more_in_sum c.trees_of_terms.ensures.one_tree _ n more _
    (among_needed _ placed text options proof (among_both c.items_are_unique.ensures.text c.texts_have_one_reading.ensures.script text options proof sc items others nested behind stands) has)

pub returns-clause-problem : goal.returns-clause-problem
returns-clause-problem c = λ text options proof n items more nested none.
    more_in_sum c.trees_of_terms.ensures.one_tree _ n more _
    (among_read _ text options proof none (among_problem c.items_are_unique.ensures.text text options proof items nested none))
