use Rattle.rule_model.proofs.ElaborationExamples.{more_kept, elaborates_itself}
use Rattle.rule_model.proofs.laws.elaboration_examples.steps_may_be_added.Goals as goal

pub returns-clause-more : goal.returns-clause-more
returns-clause-more c checking = more_kept checking

pub returns-clause-itself : goal.returns-clause-itself
returns-clause-itself c checking proof statuses formed are pass = elaborates_itself checking proof statuses formed are pass
