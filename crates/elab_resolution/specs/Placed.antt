-- Public. How many cells were placed between an earlier and a later view of a pass.
use Rattle.std.specs.Prelude.{◌≤◌, ℕ, List, length}
use Rattle.pair_pool.specs.Views.{PassView, HasCell, IsPlaced}
use Rattle.term_pool.specs.CellCounts.{Has, AreApart}

-- r is the reference of a cell that the new pass placed, and that the old one did not know. What a pass knows is in the pool already,
-- where no cell is placed twice.
pub record IsNewlyPlaced (old new : PassView) (r : ℕ) : Type 0 where
  pub first : ℕ
  pub second : ℕ
  pub placed : IsPlaced new r first second
  pub unknown : ¬ HasCell old r first second

-- there are at most n of these: no list of different ones has more
abbrev pub PlacesAtMost : PassView → PassView → ℕ → Type 0
PlacesAtMost old new n = (cells : List ℕ) → AreApart cells → ((r : ℕ) → Has cells r → IsNewlyPlaced old new r) → length cells ≤ n
