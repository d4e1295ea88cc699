-- By the lines of the step.
use Rattle.lia_rows.proofs.Steps.{is_met, is_narrow, are_lowest}
use Rattle.lia_rows.proofs.laws.combinations_are_steps.Goals as goal

pub returns-clause-met : goal.returns-clause-met
returns-clause-met c = is_met

pub returns-clause-narrow : goal.returns-clause-narrow
returns-clause-narrow c = is_narrow

pub returns-clause-lowest : goal.returns-clause-lowest
returns-clause-lowest c = are_lowest
