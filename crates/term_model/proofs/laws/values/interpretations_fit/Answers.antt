use Rattle.term_model.proofs.Tables.{table_result_fits, table_row_fits}
use Rattle.term_model.proofs.laws.values.interpretations_fit.Goals as goal

pub returns-clause-results : goal.returns-clause-results
returns-clause-results c = table_result_fits

pub returns-clause-rows : goal.returns-clause-rows
returns-clause-rows c = table_row_fits
