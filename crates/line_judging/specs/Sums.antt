-- Public. Whether lines are absurd once they are added up.
use Rattle.std.specs.Prelude.{◌≤◌, ◌<◌, ℕ, ℤ, List}
use Rattle.rule_model.specs.Arith.{CoefficientLine, IsAddedBound, IsLeastMultiple, lines_weight, limit}
use Rattle.linear_lines.specs.Lines.{IsAbsurd}
use Rattle.line_judging.specs.declared.judging.Absurdity.{Absurdity}

-- the lines, multiplied and added up, are absurd
pub record AreAbsurd (multiple : ℕ) (ls : List CoefficientLine) : Type 0 where
  pub bound : ℤ
  pub added : IsAddedBound multiple ls bound
  pub sum : IsAbsurd multiple ls bound

-- what is told of the lines, multiplied so
abbrev pub TellsSum : ℕ → List CoefficientLine → Absurdity → Type 0
TellsSum multiple ls Absurdity.Yes = (lines_weight multiple ls < limit) × AreAbsurd multiple ls
TellsSum multiple ls Absurdity.No = (lines_weight multiple ls < limit) × (AreAbsurd multiple ls → ⊥)
TellsSum multiple ls Absurdity.TooWide = limit ≤ lines_weight multiple ls

-- the denominators have a least multiple, and by it the lines are as is told
pub record TellsAbsurdity (ls : List CoefficientLine) (answer : Absurdity) : Type 0 where
  pub multiple : ℕ
  pub least : IsLeastMultiple ls multiple
  pub told : (m : ℕ) → IsLeastMultiple ls m → TellsSum m ls answer
