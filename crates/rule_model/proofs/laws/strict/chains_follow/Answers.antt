use Rattle.rule_model.proofs.StrictChains.{chains_follow}
use Rattle.rule_model.proofs.laws.strict.chains_follow.Goals as goal

pub returns : goal.returns
returns c pivots premises clause chain = chains_follow pivots premises clause chain
