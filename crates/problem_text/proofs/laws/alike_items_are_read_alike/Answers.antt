use Rattle.problem_text.proofs.AlikeTerms.{read_alike}
use Rattle.problem_text.proofs.laws.alike_items_are_read_alike.Goals as goal

pub returns : goal.returns
returns c = read_alike
