-- The operators of an order have terms of Int.
use Rattle.std.proofs.Common.{sym, ◌∙◌, refl}
use Rattle.linear_lines.proofs.ComparisonLemmas.{first_number}
use Rattle.linear_lines.proofs.comparisons.is_of_numbers.Goals as goal

pub returns-then-is_order-clause-number : goal.returns-then-is_order-clause-number
returns-then-is_order-clause-number c t u refers sorted =
    (λ e. first_number c.args.op t u (sym c.is_order.ensures ∙ c.if-is_order.true) sorted, λ h. refl)

pub returns-clause-number : goal.returns-clause-number
returns-clause-number c t u refers sorted = c.is_number.ensures.number t refers
