-- The term, then what gets a name behind it.
use Rattle.std.proofs.Common.{refl, sym}
use Rattle.term_reader.proofs.Staying.{grow_by_terms_then}
use Rattle.alethe_text.specs.ProofTerms.{place_in}
use Rattle.alethe_reader.proofs.LeftToRead.{hands_on}
use Rattle.alethe_reader.proofs.PivotPairs.{no_term, no_name, pivot_told}
use Rattle.alethe_reader.proofs.TermAnswers.{value_answers}
use Rattle.alethe_reader.proofs.pivots.pivot_at.Goals as goal

pub returns-in_err-value-clause-read : goal.returns-in_err-value-clause-read
returns-in_err-value-clause-read c settings nesting p h =
    hands_on c.from_residual.result c.from_residual.ensures.1 (no_term settings nesting _ _ p (value_answers _ _ _ settings nesting _ _ p _ (c.in_err-value.ensures.read p.script (place_in settings nesting) h)))

pub names_at-requires-clause-reader : goal.names_at-requires-clause-reader
names_at-requires-clause-reader c =
    let (settings, nesting, p, reader) = c.requires.reader in
    let read = c.in_ok-value.ensures.read p.script (place_in settings nesting) reader in
    (settings, nesting, record p { script = read.answer.state }, read.answer.after.reader)

pub returns-in_err-names_at-clause-read : goal.returns-in_err-names_at-clause-read
returns-in_err-names_at-clause-read c settings nesting p h =
    hands_on c.from_residual-in_err-names_at.result c.from_residual-in_err-names_at.ensures.1
    (rw (sym c.node.ensures.next) (no_name settings nesting _ _ p c.in_ok-value.value (value_answers _ _ _ settings nesting _ _ p _ (c.in_ok-value.ensures.read p.script (place_in settings nesting) h)) c.names_at.ensures.grow.symbols.keeps c.names_at.ensures.grow.terms _
    (c.in_err-names_at.ensures.read settings nesting) _ refl))

pub returns-in_err-names_at-clause-grow : goal.returns-in_err-names_at-clause-grow
returns-in_err-names_at-clause-grow c = grow_by_terms_then _ _ _ c.value_at.ensures.grow c.names_at.ensures.grow

pub returns-clause-read : goal.returns-clause-read
returns-clause-read c settings nesting p h =
    rw (c.with_truth.ensures, sym c.node.ensures.next) (pivot_told settings nesting _ _ p c.in_ok-value.value (value_answers _ _ _ settings nesting _ _ p _ (c.in_ok-value.ensures.read p.script (place_in settings nesting) h)) c.names_at.ensures.grow.symbols.keeps c.names_at.ensures.grow.terms _
    (c.in_ok-names_at.ensures.read settings nesting) c.truth_among-truth.result c.truth_among-truth.ensures refl)

pub returns-clause-grow : goal.returns-clause-grow
returns-clause-grow c = grow_by_terms_then _ _ _ c.value_at.ensures.grow c.names_at.ensures.grow
