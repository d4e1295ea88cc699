use Rattle.equality_steps.proofs.LawLemmas.{may_be_added}
use Rattle.equality_steps.proofs.laws.blocks_may_be_added.Goals as goal

pub returns : goal.returns
returns c p v steps line number a formed there block here = may_be_added p v line formed there steps number a block here
