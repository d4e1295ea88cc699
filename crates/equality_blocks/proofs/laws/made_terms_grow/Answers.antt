use Rattle.equality_blocks.proofs.Growing.{few_more, made_more, placed_more}
use Rattle.equality_blocks.proofs.laws.made_terms_grow.Goals as goal

pub returns-clause-made : goal.returns-clause-made
returns-clause-made c p v w t more h = made_more p v w more t h

pub returns-clause-placed : goal.returns-clause-placed
returns-clause-placed c p v w t more h = placed_more p v w more t h

pub returns-clause-few : goal.returns-clause-few
returns-clause-few c p v w n more h = few_more p v w more n h
