use Rattle.proof_contexts.proofs.OpenLines.{scope_within}
use Rattle.proof_contexts.proofs.laws.commands_stand_in_scopes.Goals as goal

pub returns : goal.returns
returns c proof i = scope_within proof i
