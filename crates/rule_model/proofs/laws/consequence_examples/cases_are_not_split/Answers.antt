use Rattle.rule_model.proofs.ConsequenceExamples.{all_signs_entail, all_signs_stay}
use Rattle.rule_model.proofs.laws.consequence_examples.cases_are_not_split.Goals as goal

pub returns-clause-entailed : goal.returns-clause-entailed
returns-clause-entailed c = all_signs_entail

pub returns-clause-not_met : goal.returns-clause-not_met
returns-clause-not_met c = all_signs_stay
