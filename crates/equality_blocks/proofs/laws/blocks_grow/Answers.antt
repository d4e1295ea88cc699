use Rattle.equality_blocks.proofs.GrowingBlocks.{block_for_more, closing_block_for_more}
use Rattle.equality_blocks.proofs.laws.blocks_grow.Goals as goal

pub returns-clause-block : goal.returns-clause-block
returns-clause-block c p v w block more one h = block_for_more p v w more one block h

pub returns-clause-closing : goal.returns-clause-closing
returns-clause-closing c p v w block more one h = closing_block_for_more p v w more one block h
