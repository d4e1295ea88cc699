-- Public. What rows say of unknowns.
use Rattle.std.specs.Prelude.{ℕ, ℤ, ◌≡◌, ◌+ℤ◌, ◌*ℤ◌, ◌≤ℤ◌, true, List, All}
use Rattle.lia_filler.specs.declared.row.Row.{Row}
use Rattle.lia_filler.specs.Plain.{coef, bound}

-- the unknowns, each multiplied by its coefficient, added
abbrev pub side_at : (ℕ → ℤ) → Row → ℤ
side_at unknowns row =
    coef 0 row *ℤ unknowns 0 +ℤ coef 1 row *ℤ unknowns 1 +ℤ coef 2 row *ℤ unknowns 2 +ℤ coef 3 row *ℤ unknowns 3

-- at least the bound, or equal to it
abbrev pub Satisfies : (ℕ → ℤ) → Row → Type 0
Satisfies unknowns row = (bound row ≤ℤ side_at unknowns row) × (row.equal ≡ true → bound row ≡ side_at unknowns row)

-- no whole numbers satisfy all rows
abbrev pub AreUnsatisfiable : List Row → Type 0
AreUnsatisfiable rows = (unknowns : ℕ → ℤ) → ¬ All (Satisfies unknowns) rows
