-- Public. The limits of what is read, and how terms are read.
use Rattle.std.specs.Prelude.{◌≡◌, ℕ, nat_le, Bool, true, List, Option, Some, None}
use Rattle.std.specs.List.{AllByRecursion}
use Rattle.term_model.specs.Heights.{height}
use Rattle.term_model.specs.Terms.{Term}

-- the greatest height of a term that is read
abbrev pub most_height : ℕ
most_height = 2000

-- What never changes while terms are read: whether lets are replaced, and the greatest height of a term. Without a limit
-- no height is judged.
pub record Settings : Type 0 where
  pub replaces_lets : Bool
  pub limit : Option ℕ

-- how the terms of a problem are read: none is higher than the limit
abbrev pub limited : Bool → Settings
limited replaces_lets = record { replaces_lets = replaces_lets; limit = Some most_height }

abbrev pub is_low : Option ℕ → ℕ → Bool
is_low None h = true
is_low (Some most) h = nat_le h most

-- none of the terms is higher than the limit
abbrev pub AreLow : Option ℕ → List Term → Type 0
AreLow limit ts = AllByRecursion (λ t. is_low limit (height t) ≡ true) ts

-- with another limit, or with none
abbrev pub with_limit : Option ℕ → Settings → Settings
with_limit limit settings = record settings { limit = limit }
