-- Private. Lists of multipliers that are made of others.
use Rattle.std.specs.Prelude.{ℕ, ℤ, pos, ◌+ℤ◌, ◌*ℤ◌, List, [], ◌∷◌, slice_set, replicate}

-- one row taken once, with a sign
abbrev pub unit : ℕ → ℤ → List ℤ
unit place sign = slice_set (replicate 8 (pos 0)) place sign

-- two lists, each taken a number of times, added
abbrev pub mixed : ℤ → List ℤ → ℤ → List ℤ → List ℤ
mixed a [] b ys = []
mixed a (x ∷ xs) b [] = []
mixed a (x ∷ xs) b (y ∷ ys) = (a *ℤ x +ℤ b *ℤ y) ∷ mixed a xs b ys
