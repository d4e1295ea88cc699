-- The formula is the term of the value, where its sort is Bool.
use Rattle.std.proofs.Common.{sym, ◌∙◌, ap}
use Rattle.sexpr.specs.declared.causes.Cause.TheVariants.{SortMismatch}
use Rattle.alethe_text.specs.ProofTerms.{place_in}
use Rattle.alethe_reader.proofs.LeftToRead.{hands_on}
use Rattle.alethe_reader.proofs.TermAnswers.{value_answers, no_formula, other_sort, is_formula}
use Rattle.alethe_reader.proofs.formulas.formula_at.Goals as goal

pub returns-in_err-value-clause-read : goal.returns-in_err-value-clause-read
returns-in_err-value-clause-read c settings nesting p h =
    hands_on c.from_residual.result c.from_residual.ensures.1 (no_formula _ _ _ settings nesting _ _ p _ (value_answers _ _ _ settings nesting _ _ p _ (c.in_err-value.ensures.read p.script (place_in settings nesting) h)))

pub returns-then-is_bool-clause-read : goal.returns-then-is_bool-clause-read
returns-then-is_bool-clause-read c settings nesting p h =
    is_formula _ _ _ settings nesting _ _ p c.in_ok-value.value (value_answers _ _ _ settings nesting _ _ p _ (c.in_ok-value.ensures.read p.script (place_in settings nesting) h)) (sym c.is_bool.ensures ∙ c.if-is_bool.true)

pub returns-else-is_bool-clause-read : goal.returns-else-is_bool-clause-read
returns-else-is_bool-clause-read c settings nesting p h =
    other_sort _ _ _ settings nesting _ _ p c.in_ok-value.value (value_answers _ _ _ settings nesting _ _ p _ (c.in_ok-value.ensures.read p.script (place_in settings nesting) h)) (sym c.is_bool.ensures ∙ c.if-is_bool.false)
    c.refused.result (c.refused.ensures ∙ ap (λ n. record { cause = SortMismatch; at = n }) c.node-place.ensures.start)
