use Rattle.rule_model.proofs.Verdicts.{valid_refutes}
use Rattle.rule_model.proofs.laws.soundness.valid_proofs_are_refutations.Goals as goal

pub returns : goal.returns
returns c check proof statuses formed sorted are valid = valid_refutes check proof formed sorted statuses are valid
