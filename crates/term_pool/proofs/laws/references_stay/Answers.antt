use Rattle.term_pool.proofs.Growth.{stays}
use Rattle.term_pool.proofs.laws.references_stay.Goals as goal

pub returns : goal.returns
returns c = λ s z v w r t keeps kept h.
    record { tree = h.tree; known = kept.pass.grows _ _ h.known; stands = stays s z keeps t h.tree h.stands }
