-- The kind of a word says which amount it spells.
use Rattle.std.proofs.Common.{◌∙◌, Some, sym, ap, subst}
use Rattle.alethe_text.specs.Coefficients as spec
use Rattle.coefficients.specs.Amounts.{IsAmountFound}
use Rattle.coefficients.proofs.AmountLemmas.{no_amount, as_ratio, as_figure}
use Rattle.coefficients.proofs.amounts.amount_spelled.Goals as goal

pub returns-in_err-kind : goal.returns-in_err-kind
returns-in_err-kind c =
    subst (λ o. IsAmountFound o (spec.amount_spelled c.args.place c.args.word.now)) (sym c.from_residual.ensures) (no_amount c.args.place c.args.word.now (sym c.word_kind.ensures ∙ c.in_err-kind.was))

pub returns-in-Ratio : goal.returns-in-Ratio
returns-in-Ratio c =
    subst (λ o. IsAmountFound c.ratio_amount.result o) (as_ratio c.args.place c.args.word.now (sym c.word_kind.ensures ∙ c.in_ok-kind.was ∙ ap Some c.in-Ratio.is)) c.ratio_amount.ensures

pub returns-in_default : goal.returns-in_default
returns-in_default c =
    subst (λ o. IsAmountFound c.figure_amount.result o) (as_figure c.args.place c.args.word.now c.in_ok-kind.kind (sym c.word_kind.ensures ∙ c.in_ok-kind.was) c.in_default.not-Ratio) c.figure_amount.ensures
