-- By the table of the words.
use Rattle.rule_model.proofs.RuleWords.{word_names, named_has_word, named_no_assume}
use Rattle.rule_model.proofs.laws.rules.rules_have_words.Goals as goal

pub returns-clause-named : goal.returns-clause-named
returns-clause-named c rule a u = word_names rule a u

pub returns-clause-word : goal.returns-clause-word
returns-clause-word c word h = named_has_word word h

pub returns-clause-no_assume : goal.returns-clause-no_assume
returns-clause-no_assume c word = named_no_assume word
