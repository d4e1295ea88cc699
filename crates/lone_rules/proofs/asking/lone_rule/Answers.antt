use Rattle.lone_rules.proofs.Lone.{all_asked}
use Rattle.lone_rules.proofs.asking.lone_rule.Goals as goal

pub first_among-requires-clause-asked : goal.first_among-requires-clause-asked
first_among-requires-clause-asked c = all_asked

pub returns-clause-rule : goal.returns-clause-rule
returns-clause-rule c = c.first_among.ensures.found
