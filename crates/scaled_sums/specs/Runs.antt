-- Private. Runs of coefficients of one term.
use Rattle.std.specs.Prelude.{ℕ, ℤ, pos, ◌≡◌, ◌≤◌, ◌+◌, ◌+ℤ◌, ◌==◌, if◌then◌else◌, List, [], ◌∷◌, unsigned_abs, ⊤}
use Rattle.scaled_sums.specs.declared.coefficients.Coefficient.{Coefficient}
use Rattle.scaled_sums.specs.Coefficients.{sum_at, sizes_of}

-- the terms come in order, from this one on
abbrev pub Rises : ℕ → List Coefficient → Type 0
Rises r [] = ⊤
Rises r (c ∷ cs) = (r ≤ c.term) × Rises c.term cs

-- Of a sum, a run of one term has come to this, all terms before it are cancelled, and the rest is to come.
pub record IsRunOfTerm (whole : List Coefficient) (current : ℕ) (so_far : ℤ) (rest : List Coefficient) : Type 0 where
  pub numbers : (r : ℕ) → sum_at whole r ≡ (if current == r then so_far else pos 0) +ℤ sum_at rest r
  pub narrow : unsigned_abs so_far + sizes_of rest ≤ sizes_of whole
  pub rising : Rises current rest
