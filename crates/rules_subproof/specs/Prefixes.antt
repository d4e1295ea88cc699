-- Private. How lists begin.
use Rattle.std.specs.Prelude.{◌≡◌, ◌++◌, List}

-- the list begins with another one
pub record HasPrefix {X : Type 0} (prefix whole : List X) : Type 0 where
  pub rest : List X
  pub is : whole ≡ prefix ++ rest
