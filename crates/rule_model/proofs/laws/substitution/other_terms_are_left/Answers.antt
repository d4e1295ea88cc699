use Rattle.rule_model.proofs.Substituting.{put_in_others, put_in_closed, put_in_nothing}
use Rattle.rule_model.proofs.laws.substitution.other_terms_are_left.Goals as goal

pub returns-clause-others : goal.returns-clause-others
returns-clause-others c = put_in_others

pub returns-clause-closed : goal.returns-clause-closed
returns-clause-closed c = put_in_closed

pub returns-clause-nothing : goal.returns-clause-nothing
returns-clause-nothing c = put_in_nothing
