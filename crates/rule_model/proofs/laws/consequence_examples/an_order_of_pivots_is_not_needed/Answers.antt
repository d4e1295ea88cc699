use Rattle.rule_model.proofs.ConsequenceExamples.{four_follow}
use Rattle.rule_model.proofs.laws.consequence_examples.an_order_of_pivots_is_not_needed.Goals as goal

pub returns : goal.returns
returns c = four_follow
