use Rattle.pruned_texts.proofs.FewAssertions.{few_assertions}
use Rattle.pruned_texts.proofs.laws.problems_are_short.Goals as goal

pub returns : goal.returns
returns c = λ source replaces s h. few_assertions c.tokens_are_spelled.ensures.spelled source replaces s h
