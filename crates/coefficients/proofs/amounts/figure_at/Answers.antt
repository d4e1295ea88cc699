-- A word is a figure as it is spelled.
use Rattle.std.proofs.Common.{subst}
use Rattle.alethe_text.specs.Coefficients as spec
use Rattle.coefficients.specs.Amounts.{IsFigureFound}
use Rattle.coefficients.proofs.ListShapes.{word_at}
use Rattle.coefficients.proofs.amounts.figure_at.Goals as goal

pub returns-in-Word : goal.returns-in-Word
returns-in-Word c =
    subst (λ i. IsFigureFound c.figure_spelled.result (spec.figure_of i)) (word_at c.args.items.now c.args.k c.node.result c.node.ensures c.in-Word.is c.spelling.result.now c.spelling.ensures) c.figure_spelled.ensures
