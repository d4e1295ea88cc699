-- References stay.
use Rattle.proof_store.proofs.MeaningLemmas.{items_stay}
use Rattle.proof_store.proofs.laws.proofs_stay.Goals as goal

pub returns : goal.returns
returns c s z v w refs proof keeps grows h =
    items_stay s z v w keeps (λ r t refers. c.references_stay.ensures s z v w r t keeps grows refers) refs proof h
