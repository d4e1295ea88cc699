use Rattle.rules_resolution.proofs.Loaded.{short_premises}
use Rattle.rules_resolution.proofs.laws.premises_are_short.Goals as goal

pub returns : goal.returns
returns c proof i premises short are = short_premises proof i premises short are
