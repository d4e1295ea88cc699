use Rattle.rule_model.proofs.Chaining.{bridged}
use Rattle.rule_model.proofs.laws.chains.spellings_may_change.Goals as goal

pub returns : goal.returns
returns c falses left right p b result on_left like step = bridged falses left right p b result on_left like step
