use Rattle.rule_model.proofs.Verdicts.{one_status, one_verdict}
use Rattle.rule_model.proofs.laws.soundness.statuses_are_unique.Goals as goal

pub returns-clause-status : goal.returns-clause-status
returns-clause-status c = one_status

pub returns-clause-verdict : goal.returns-clause-verdict
returns-clause-verdict c statuses proof v w h k = one_verdict statuses proof v w h k
