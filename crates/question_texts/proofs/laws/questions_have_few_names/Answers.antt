use Rattle.question_texts.proofs.FewNames.{few}
use Rattle.question_texts.proofs.laws.questions_have_few_names.Goals as goal

pub returns : goal.returns
returns c = few
