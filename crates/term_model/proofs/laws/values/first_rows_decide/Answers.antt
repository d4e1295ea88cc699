use Rattle.term_model.proofs.Tables.{first_row_here, first_row_later, first_row_default}
use Rattle.term_model.proofs.laws.values.first_rows_decide.Goals as goal

pub returns-clause-first : goal.returns-clause-first
returns-clause-first c = first_row_here

pub returns-clause-later : goal.returns-clause-later
returns-clause-later c = first_row_later

pub returns-clause-none : goal.returns-clause-none
returns-clause-none c = first_row_default
