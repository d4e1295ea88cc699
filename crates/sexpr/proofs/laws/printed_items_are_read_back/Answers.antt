use Rattle.sexpr.proofs.PrintedItems.{symbol_is, lines_have_form, lines_stand}
use Rattle.sexpr.proofs.PrintedNumerals.{decimal_is_word}
use Rattle.sexpr.proofs.laws.printed_items_are_read_back.Goals as goal

pub returns-clause-symbol : goal.returns-clause-symbol
returns-clause-symbol c = symbol_is

pub returns-clause-form : goal.returns-clause-form
returns-clause-form c = lines_have_form

pub returns-clause-items : goal.returns-clause-items
returns-clause-items c = lines_stand

pub returns-clause-numeral : goal.returns-clause-numeral
returns-clause-numeral c = decimal_is_word
