use Rattle.equality_steps.proofs.RuleLemmas.{term_later, eq_reflexive_step}
use Rattle.equality_steps.proofs.StepLemmas.{block_later}
use Rattle.equality_steps.proofs.turning.eq_reflexive.Goals as goal

pub push_unit-requires-clause-block : goal.push_unit-requires-clause-block
push_unit-requires-clause-block c =
    block_later c.args.at.now c.args.terms.now c.equality_of.new.terms c.equality_of.ensures.keeps c.args.block.now c.requires.block

pub push_unit-requires-clause-step : goal.push_unit-requires-clause-step
push_unit-requires-clause-step c =
    let p = c.args.at.now in
    let v = c.args.terms.now in
    let w = c.equality_of.new.terms in
    let keeps = c.equality_of.ensures.keeps in
    let steps = c.args.block.now in
    let block = block_later p v w keeps steps c.requires.block in
    let given = term_later p v w keeps c.args.a c.requires.given in
    eq_reflexive_step p w c.leaves_differ.ensures.table c.one_to_one.ensures steps block c.args.a c.in_ok-literal.literal given
    (c.in_ok-literal.ensures.term given.term given.term c.requires.given.refers c.requires.given.refers)
