use Rattle.equality_steps.proofs.RuleLemmas.{turned_later, eq_symmetric_step}
use Rattle.equality_steps.proofs.StepLemmas.{block_later}
use Rattle.equality_steps.proofs.turning.eq_symmetric.Goals as goal

pub push_unit-requires-clause-block : goal.push_unit-requires-clause-block
push_unit-requires-clause-block c =
    block_later c.args.at.now c.args.terms.now c.equality_of.new.terms c.equality_of.ensures.keeps c.args.block.now c.requires.block

pub push_unit-requires-clause-step : goal.push_unit-requires-clause-step
push_unit-requires-clause-step c =
    let p = c.args.at.now in
    let v = c.args.terms.now in
    let w = c.equality_of.new.terms in
    let keeps = c.equality_of.ensures.keeps in
    let steps = c.args.block.now in
    let block = block_later p v w keeps steps c.requires.block in
    let given = turned_later p v w keeps c.args.whole c.args.turned c.requires.given in
    eq_symmetric_step p w c.leaves_differ.ensures.table c.one_to_one.ensures steps block c.args.whole c.args.turned c.in_ok-literal.literal given
    (c.in_ok-literal.ensures.term _ _ c.requires.given.whole_refers c.requires.given.turned_refers)
