use Rattle.rule_model.proofs.RuleWords.{one_word}
use Rattle.rule_model.proofs.laws.rules.words_name_one_rule.Goals as goal

pub returns : goal.returns
returns c = one_word
