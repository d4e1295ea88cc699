-- Public. Lists of opaque terms with their coefficients.
use Rattle.std.specs.Prelude.{◌≢◌, ◌==◌, ℕ, ℤ, pos, ◌+◌, ◌+ℤ◌, unsigned_abs, if◌then◌else◌, List, [], ◌∷◌, All}
use Rattle.linear_forms.specs.declared.nodes.Coefficient.{Coefficient}

-- the sum of the numbers that stand with a reference
abbrev pub sum_at : List Coefficient → ℕ → ℤ
sum_at [] r = pos 0
sum_at (c ∷ cs) r = (if c.term == r then c.number else pos 0) +ℤ sum_at cs r

-- the sum of the absolute values
abbrev pub sizes_of : List Coefficient → ℕ
sizes_of [] = 0
sizes_of (c ∷ cs) = unsigned_abs c.number + sizes_of cs

-- no term stands twice
abbrev pub AreOfDifferentTerms : List Coefficient → Type 0
AreOfDifferentTerms [] = Unit {0}
AreOfDifferentTerms (c ∷ cs) = All (λ (d : Coefficient). d.term ≢ c.term) cs × AreOfDifferentTerms cs
