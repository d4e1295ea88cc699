-- Public. What is found of assertions: a combination of their rows that shows that they contradict each other, or that there is
-- none that is searched for.
use Rattle.std.specs.Prelude.{◌≡◌, ℤ, List, map, Option, Some, None}
use Rattle.sym_table.specs.Table.{Table}
use Rattle.term_model.specs.Terms.{Term}
use Rattle.term_pool.specs.Views.{TermsView, ReferToAll}
use Rattle.lia_rows.specs.declared.refuting.Refutation.{Refutation}
use Rattle.lia_rows.specs.Combinations.{AreNarrow, AreSearched, IsPlainCombination}
use Rattle.lia_rows.specs.Rows.{Row, AreRowsOf}
use Rattle.lia_rows.specs.Steps.{used}

-- a plain combination of the rows of the assertions, and of it the assertions whose multiplier is not 0, with these multipliers
pub record IsRefutation (s : Table) (v : TermsView) (ts : List Term) (found : Refutation) : Type 0 where
  pub rows : List Row
  pub multipliers : List ℤ
  pub given : AreRowsOf ts rows
  pub searched : AreSearched rows
  pub combination : IsPlainCombination rows multipliers
  pub narrow : AreNarrow multipliers
  pub assertions : ReferToAll s v found.assertions.items (map (λ (row : Row). row.assertion) (used multipliers rows))
  pub numbers : found.multipliers.items ≡ used multipliers multipliers

-- the rows are too many, too wide, or have no plain combination of any size
abbrev pub HaveNoRefutation : List Term → Type 0
HaveNoRefutation ts = (rows : List Row) → AreRowsOf ts rows → AreSearched rows → (ms : List ℤ) → ¬ IsPlainCombination rows ms

abbrev pub TellsRefutation : Table → TermsView → List Term → Option Refutation → Type 0
TellsRefutation s v ts (Some found) = IsRefutation s v ts found
TellsRefutation s v ts None = HaveNoRefutation ts
