use Rattle.equality_steps.proofs.LawLemmas.{closed_under}
use Rattle.equality_steps.proofs.laws.closed_terms.Goals as goal

pub returns : goal.returns
returns c p v anchors t stand = closed_under p v anchors t stand
