use Rattle.rule_model.proofs.Consequence.{consequence_sound}
use Rattle.rule_model.proofs.laws.consequence.consequence_is_sound.Goals as goal

pub returns : goal.returns
returns g c = consequence_sound
