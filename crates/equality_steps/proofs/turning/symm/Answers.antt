use Rattle.equality_steps.proofs.RuleLemmas.{equates_later, symm_step}
use Rattle.equality_steps.proofs.StepLemmas.{block_later}
use Rattle.equality_steps.proofs.turning.symm.Goals as goal

pub push_unit-requires-clause-block : goal.push_unit-requires-clause-block
push_unit-requires-clause-block c =
    block_later c.args.at.now c.args.terms.now c.equality_of.new.terms c.equality_of.ensures.keeps c.args.block.now c.requires.block

pub push_unit-requires-clause-step : goal.push_unit-requires-clause-step
push_unit-requires-clause-step c =
    let p = c.args.at.now in
    let v = c.args.terms.now in
    let w = c.equality_of.new.terms in
    let keeps = c.equality_of.ensures.keeps in
    let steps = c.args.block.now in
    let block = block_later p v w keeps steps c.requires.block in
    let given = equates_later p v w keeps steps c.args.link c.args.a c.args.b c.requires.given in
    symm_step p w c.leaves_differ.ensures.table c.one_to_one.ensures steps block c.args.link c.args.a c.args.b c.in_ok-literal.literal given
    (c.in_ok-literal.ensures.term given.right given.left c.requires.given.right_refers c.requires.given.left_refers)
