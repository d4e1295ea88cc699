use Rattle.equality_blocks.proofs.LowLemmas.{made_low}
use Rattle.equality_blocks.proofs.laws.made_terms_are_low.Goals as goal

pub returns : goal.returns
returns c p v proof assertions h t command stand refer low_assertions low made =
    made_low c.what_is_made_is_low.ensures.from c.proofs_stand_for_one.ensures.one p v proof assertions h t command stand refer low_assertions low made
