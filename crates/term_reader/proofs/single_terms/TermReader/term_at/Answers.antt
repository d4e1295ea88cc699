-- The term is that of the value.
use Rattle.std.proofs.lemmas.Result.{err_from_is_err_and}
use Rattle.term_reader.proofs.Coming.{faulted}
use Rattle.term_reader.proofs.PushedVariables.{term_of_value}
use Rattle.term_reader.proofs.single_terms.TermReader.term_at.Goals as goal

pub returns-in_err-value-clause-read : goal.returns-in_err-value-clause-read
returns-in_err-value-clause-read c sc p h =
    let is = err_from_is_err_and c.from_residual.result c.from_residual.ensures.1 in
    rw (is.1, is.2) (faulted (c.in_err-value.ensures.read sc p h))

pub returns-clause-read : goal.returns-clause-read
returns-clause-read c sc p h = term_of_value _ _ _ _ p _ c.in_ok-value.value (c.in_ok-value.ensures.read sc p h)
