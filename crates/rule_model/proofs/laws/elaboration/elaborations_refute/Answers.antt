use Rattle.rule_model.proofs.Elaboration.{refutes}
use Rattle.rule_model.proofs.laws.elaboration.elaborations_refute.Goals as goal

pub returns : goal.returns
returns c checking mode old new statuses e sorted are valid = refutes checking mode old new e statuses sorted are valid
