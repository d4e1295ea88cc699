use Rattle.rule_model.proofs.Chaining.{resolvent_was}
use Rattle.rule_model.proofs.laws.chains.resolvents_have_other_literals.Goals as goal

pub returns : goal.returns
returns c left right p b result u step there = resolvent_was left right p b result u step there
