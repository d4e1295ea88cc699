-- By recursion on the term; under a let by the values of its free variables.
use Rattle.rule_model.proofs.SubstitutedValues.{value_put_in}
use Rattle.rule_model.proofs.laws.substitution.values_are_put_in.Goals as goal

pub returns : goal.returns
returns c = value_put_in
