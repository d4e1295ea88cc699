use Rattle.equality_steps.proofs.RuleLemmas.{assume_step}
use Rattle.equality_steps.proofs.beginning.assume.Goals as goal

pub push_unit-requires-clause-step : goal.push_unit-requires-clause-step
push_unit-requires-clause-step c =
    assume_step c.args.at.now c.args.terms.now c.args.block.now c.requires.block c.args.assertion c.requires.outer c.requires.asserted c.requires.literal
