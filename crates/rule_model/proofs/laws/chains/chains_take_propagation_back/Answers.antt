use Rattle.rule_model.proofs.Chaining.{taken_back, passed_over}
use Rattle.rule_model.proofs.laws.chains.chains_take_propagation_back.Goals as goal

pub returns-clause-resolved : goal.returns-clause-resolved
returns-clause-resolved c falses l left right p b result on_left on_right left_one right_one step =
    taken_back falses l left right p b result on_left on_right left_one right_one step

pub returns-clause-passed_over : goal.returns-clause-passed_over
returns-clause-passed_over c falses l clause all lacks = passed_over falses l clause all lacks
