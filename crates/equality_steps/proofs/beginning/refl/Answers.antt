use Rattle.equality_steps.proofs.RuleLemmas.{same_later, sides_later, refl_step}
use Rattle.equality_steps.proofs.StepLemmas.{block_later}
use Rattle.equality_steps.proofs.beginning.refl.Goals as goal

pub push_unit-requires-clause-block : goal.push_unit-requires-clause-block
push_unit-requires-clause-block c =
    block_later c.args.at.now c.args.terms.now c.equality_of.new.terms c.equality_of.ensures.keeps c.args.block.now c.requires.block

pub push_unit-requires-clause-step : goal.push_unit-requires-clause-step
push_unit-requires-clause-step c =
    let p = c.args.at.now in
    let v = c.args.terms.now in
    let w = c.equality_of.new.terms in
    let keeps = c.equality_of.ensures.keeps in
    let steps = c.args.block.now in
    let block = block_later p v w keeps steps c.requires.block in
    let given = same_later p v w keeps c.args.a c.args.b c.requires.given in
    let sides = sides_later p v w keeps c.args.a c.args.b c.requires.sides in
    refl_step p w c.leaves_differ.ensures.table c.one_to_one.ensures steps block c.args.a c.args.b c.in_ok-literal.literal given sides
    (c.in_ok-literal.ensures.term given.left given.right c.requires.given.left_refers c.requires.given.right_refers)
