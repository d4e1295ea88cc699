-- Public. What a trail says.
use Rattle.std.specs.Prelude.{ℕ, List, Option}

-- the literals that are made true, each by its premise's place and its own place there, and the place of
-- the premise that is false in the end, if there is one
pub record Trace : Type 0 where
  pub units : List (ℕ × ℕ)
  pub last : Option ℕ
