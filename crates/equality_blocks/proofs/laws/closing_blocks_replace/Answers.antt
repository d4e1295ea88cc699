use Rattle.equality_blocks.proofs.ClosingLemmas.{closing_added, closing_fits, closing_strict}
use Rattle.equality_blocks.proofs.laws.closing_blocks_replace.Goals as goal

pub returns-clause-strict : goal.returns-clause-strict
returns-clause-strict c p v checking proof block stand refer h = closing_strict p v checking proof stand refer block h c.proofs_stand_for_one.ensures.one

pub returns-clause-fitting : goal.returns-clause-fitting
returns-clause-fitting c p v checking proof block stand refer h =
    closing_fits p v checking proof stand refer block h c.what_is_made_is_low.ensures.from c.proofs_stand_for_one.ensures.one

pub returns-clause-added : goal.returns-clause-added
returns-clause-added c p v line block there h = closing_added p v line block there h
