use Rattle.rule_model.proofs.Consequence.{consequence_sound}
use Rattle.rules_resolution.proofs.laws.consequence_is_sound.Goals as goal

pub returns : goal.returns
returns c = consequence_sound
