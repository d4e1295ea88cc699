-- Public. What contracts see of a filler by rules.
use Rattle.std.specs.Prelude.{ℕ, List}
use Rattle.fillers.specs.Books.{Exchange}

-- how many questions it may still be asked, and its book
pub record RuleState : Type 0 where
  pub left : ℕ
  pub book : List Exchange
