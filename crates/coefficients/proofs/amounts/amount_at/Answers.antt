-- A word is an amount as it is spelled.
use Rattle.std.proofs.Common.{subst}
use Rattle.alethe_text.specs.Coefficients as spec
use Rattle.coefficients.specs.Amounts.{IsAmountFound}
use Rattle.coefficients.proofs.ListShapes.{word_at}
use Rattle.coefficients.proofs.amounts.amount_at.Goals as goal

pub returns-in-Word : goal.returns-in-Word
returns-in-Word c =
    subst (λ i. IsAmountFound c.amount_spelled.result (spec.amount_of i)) (word_at c.args.items.now c.args.k c.node.result c.node.ensures c.in-Word.is c.spelling.result.now c.spelling.ensures) c.amount_spelled.ensures
