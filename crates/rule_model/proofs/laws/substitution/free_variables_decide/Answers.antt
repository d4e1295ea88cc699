use Rattle.rule_model.proofs.Substituting.{put_in_agrees}
use Rattle.rule_model.proofs.laws.substitution.free_variables_decide.Goals as goal

pub returns : goal.returns
returns c = λ s q t h. put_in_agrees t s q h
