use Rattle.proof_contexts.proofs.OpenLines.{open_at}
use Rattle.proof_contexts.proofs.laws.anchors_are_those_of_scopes.Goals as goal

pub returns : goal.returns
returns c proof i closes = open_at proof i closes
