-- The kind of a word says which figure it spells.
use Rattle.std.proofs.Common.{◌∙◌, ◌+◌, Some, refl, sym, ap, take, drop, subst}
use Rattle.alethe_text.specs.Coefficients as text
use Rattle.coefficients.specs.Amounts.{IsFigureFound}
use Rattle.coefficients.proofs.WordKinds.{no_word, no_figure, numeral_is, decimal_is}
use Rattle.coefficients.proofs.figures.figure_spelled.Goals as goal

pub returns-in_err-kind : goal.returns-in_err-kind
returns-in_err-kind c =
    subst (λ o. IsFigureFound o (text.figure_spelled c.args.place c.args.word.now)) (sym c.from_residual.ensures) (no_word c.args.place c.args.word.now (sym c.word_kind.ensures ∙ c.in_err-kind.was))

pub returns-in-Numeral : goal.returns-in-Numeral
returns-in-Numeral c =
    numeral_is c.args.place c.args.word.now c.figure_with.result _ (sym c.word_kind.ensures ∙ c.in_ok-kind.was ∙ ap Some c.in-Numeral.is) refl c.figure_with.ensures.place c.figure_with.ensures.zero c.figure_with.ensures.parts

pub returns-in-Decimal : goal.returns-in-Decimal
returns-in-Decimal c =
    decimal_is c.args.place c.args.word.now c.figure_with-in-Decimal.result _ _ (sym c.word_kind.ensures ∙ c.in_ok-kind.was ∙ ap Some c.in-Decimal.is)
    (ap (λ n. take n c.args.word.now) c.position_of-point.ensures.value) (c.behind.ensures ∙ ap (λ n. drop (n + 1) c.args.word.now) c.position_of-point.ensures.value)
    c.figure_with-in-Decimal.ensures.place c.figure_with-in-Decimal.ensures.zero c.figure_with-in-Decimal.ensures.parts

pub returns-in_default : goal.returns-in_default
returns-in_default c = no_figure c.args.place c.args.word.now c.in_ok-kind.kind (sym c.word_kind.ensures ∙ c.in_ok-kind.was) c.in_default.not-Numeral c.in_default.not-Decimal
