use Rattle.rule_model.proofs.Weights.{form_is_light}
use Rattle.rule_model.proofs.laws.arithmetic.weights_bound_forms.Goals as goal

pub returns : goal.returns
returns c us t distinct = form_is_light us distinct t
