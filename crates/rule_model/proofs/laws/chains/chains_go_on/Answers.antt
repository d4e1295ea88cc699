use Rattle.rule_model.proofs.Chaining.{chain_on}
use Rattle.rule_model.proofs.laws.chains.chains_go_on.Goals as goal

pub returns : goal.returns
returns c left premises pivots middle right p b result chain last = chain_on left premises pivots middle right p b result chain last
