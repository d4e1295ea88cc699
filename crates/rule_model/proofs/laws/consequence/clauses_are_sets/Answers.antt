use Rattle.rule_model.proofs.Sets.{follows_by_sets}
use Rattle.rule_model.proofs.laws.consequence.clauses_are_sets.Goals as goal

pub returns : goal.returns
returns g c = follows_by_sets
