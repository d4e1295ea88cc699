use Rattle.term_model.proofs.Flips.{flips_turned, flips_value, let_alone}
use Rattle.term_model.proofs.laws.flips.flips_keep_values.Goals as goal

pub returns-clause-turned : goal.returns-clause-turned
returns-clause-turned c = flips_turned

pub returns-clause-value : goal.returns-clause-value
returns-clause-value c = flips_value

pub returns-clause-let_alone : goal.returns-clause-let_alone
returns-clause-let_alone c = let_alone
