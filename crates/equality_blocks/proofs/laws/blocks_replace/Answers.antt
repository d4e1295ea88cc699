use Rattle.equality_blocks.proofs.BlockLemmas.{block_added, block_fits, block_strict}
use Rattle.equality_blocks.proofs.laws.blocks_replace.Goals as goal

pub returns-clause-strict : goal.returns-clause-strict
returns-clause-strict c p v checking proof block stand refer h = block_strict p v checking proof stand refer block h

pub returns-clause-fitting : goal.returns-clause-fitting
returns-clause-fitting c p v checking proof block stand refer h =
    block_fits p v checking proof stand refer block h c.what_is_made_is_low.ensures.from c.proofs_stand_for_one.ensures.one

pub returns-clause-added : goal.returns-clause-added
returns-clause-added c p v line block there h = block_added p v line block there h
