-- Both ways by recursion on the term.
use Rattle.rule_model.proofs.Freedom.{free_variables-are}
use Rattle.rule_model.proofs.laws.replacement.free_variables_are_listed.Goals as goal

pub returns : goal.returns
returns c = free_variables-are
