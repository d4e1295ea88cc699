use Rattle.rule_model.specs.Scopes.{outermost}
use Rattle.reread_laws.proofs.SpelledProofs.{readable_spelled}
use Rattle.reread_laws.proofs.laws.readable_proofs_are_spelled.Goals as goal

pub returns : goal.returns
returns c = λ settings plan s proof sound readable. readable_spelled settings plan s sound outermost proof readable
