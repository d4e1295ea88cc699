use Rattle.rule_model.proofs.Substituting.{put_in_sort}
use Rattle.rule_model.proofs.laws.substitution.substitution_keeps_sorts.Goals as goal

pub returns : goal.returns
returns c = put_in_sort
