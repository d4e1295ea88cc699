use Rattle.lone_rules.specs.LoneRules.{lone_rules}
use Rattle.lone_rules.proofs.Lone.{one_found, lone_judged}
use Rattle.lone_rules.proofs.laws.lone_rules_are_unique.Goals as goal

pub returns-clause-one : goal.returns-clause-one
returns-clause-one c = λ clause a b is other. one_found clause lone_rules a b is other

pub returns-clause-judged : goal.returns-clause-judged
returns-clause-judged c = λ clause rule is. lone_judged clause rule is
