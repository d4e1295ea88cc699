-- Public. At most so many different items are of a kind.
use Rattle.std.specs.Prelude.{◌≤◌, ℕ, List, length}
use Rattle.term_pool.specs.CellCounts.{Has, AreApart}

-- at most n items meet P: no list of different ones has more
abbrev pub AtMost : {X : Type 0} → ℕ → (X → Type 0) → Type 0
AtMost {X} n P = (items : List X) → AreApart items → ((x : X) → Has items x → P x) → length items ≤ n
