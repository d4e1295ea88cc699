use Rattle.rule_model.proofs.ConsequenceExamples.{no_part}
use Rattle.rule_model.proofs.laws.consequence_examples.a_clause_does_not_give_a_part.Goals as goal

pub returns : goal.returns
returns c = no_part
