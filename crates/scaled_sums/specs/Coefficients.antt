-- Public. Sums of opaque terms, each with its coefficient. Terms are known by their references.
use Rattle.std.specs.Prelude.{ℕ, ℤ, pos, ◌+◌, ◌+ℤ◌, ◌*ℤ◌, ◌==◌, ◌≢◌, if◌then◌else◌, List, [], ◌∷◌, unsigned_abs, AllPairs}
use Rattle.scaled_sums.specs.declared.coefficients.Coefficient.{Coefficient}

-- the sum of the numbers that stand with a reference
abbrev pub sum_at : List Coefficient → ℕ → ℤ
sum_at [] r = pos 0
sum_at (c ∷ cs) r = (if c.term == r then c.number else pos 0) +ℤ sum_at cs r

-- the sum of the absolute values
abbrev pub sizes_of : List Coefficient → ℕ
sizes_of [] = 0
sizes_of (c ∷ cs) = unsigned_abs c.number + sizes_of cs

-- no reference stands twice
abbrev pub AreOfDifferentTerms : List Coefficient → Type 0
AreOfDifferentTerms cs = AllPairs (λ (c d : Coefficient). c.term ≢ d.term) cs

-- multiplied by a number
abbrev pub scale : ℤ → Coefficient → Coefficient
scale factor c = record { term = c.term; number = factor *ℤ c.number }
