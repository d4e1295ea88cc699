-- Private. Numbered lists of leaves.
use Rattle.std.specs.Prelude.{◌≡◌, ◌≤◌, ◌<◌, ℕ, zero, suc, List, [], ◌∷◌, length, Vec}
use Rattle.std.specs.declared.alloc.Global.{Global}

-- the list with this number
abbrev pub shadowed : List (Vec ℕ Global) → ℕ → List ℕ
shadowed [] n = []
shadowed (list ∷ lists) zero = list.items
shadowed (list ∷ lists) (suc n) = shadowed lists n

-- the old lists keep their numbers
pub record KeepsLayers (old new : List (Vec ℕ Global)) : Type 0 where
  pub more : length old ≤ length new
  pub same : (n : ℕ) → n < length old → shadowed new n ≡ shadowed old n
