use Rattle.rule_model.proofs.ContextLaws.{anchor_binds, anchor_keeps_others}
use Rattle.rule_model.proofs.laws.contexts.anchors_bind_like_lets.Goals as goal

pub returns-clause-values : goal.returns-clause-values
returns-clause-values c = anchor_binds

pub returns-clause-others : goal.returns-clause-others
returns-clause-others c = anchor_keeps_others
