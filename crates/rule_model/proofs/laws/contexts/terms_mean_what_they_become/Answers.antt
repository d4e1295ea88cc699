use Rattle.rule_model.proofs.ContextLaws.{means_what_it_becomes}
use Rattle.rule_model.proofs.laws.contexts.terms_mean_what_they_become.Goals as goal

pub returns : goal.returns
returns c = means_what_it_becomes
