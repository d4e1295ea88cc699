use Rattle.problem_text.proofs.PrintedSpelling.{term_spelled}
use Rattle.problem_text.proofs.PrintedTerms.{term_read}
use Rattle.problem_text.proofs.PrintedNames.{naming_read, name_read, printable_behind, means_kept}
use Rattle.problem_text.proofs.laws.printed_terms_are_read_back.Goals as goal

pub returns-clause-spelled : goal.returns-clause-spelled
returns-clause-spelled c = term_spelled

pub returns-clause-whole : goal.returns-clause-whole
returns-clause-whole c = term_read

pub returns-clause-naming : goal.returns-clause-naming
returns-clause-naming c = naming_read

pub returns-clause-name : goal.returns-clause-name
returns-clause-name c = name_read

pub returns-clause-others : goal.returns-clause-others
returns-clause-others c = printable_behind

pub returns-clause-names_stay : goal.returns-clause-names_stay
returns-clause-names_stay c = means_kept
