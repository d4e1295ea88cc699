use Rattle.flip_steps.specs.Stages.{StandsBefore}
use Rattle.flip_steps.proofs.FormLemmas.{form_equal, form_free, form_height, form_sort}
use Rattle.flip_steps.proofs.laws.forms_are_like_their_terms.Goals as goal

pub returns-clause-equal : goal.returns-clause-equal
returns-clause-equal c = λ s v t f. form_equal (StandsBefore s v) t f

pub returns-clause-sort : goal.returns-clause-sort
returns-clause-sort c = λ s v t f sort. form_sort (StandsBefore s v) t f sort

pub returns-clause-variables : goal.returns-clause-variables
returns-clause-variables c = λ s v t f x. form_free (StandsBefore s v) x t f

pub returns-clause-height : goal.returns-clause-height
returns-clause-height c = λ s v t f. form_height (StandsBefore s v) t f
