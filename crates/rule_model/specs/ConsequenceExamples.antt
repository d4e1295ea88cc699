-- Public. Small lists of clauses, for the laws of unit consequence.
use Rattle.std.specs.Prelude.{ℕ, true, false, List, [], ◌∷◌}
use Rattle.rule_model.specs.declared.literal.Literal.{Literal}
use Rattle.rule_model.specs.declared.literal.Literal.TheVariants.{Plain}

-- an atom, and its negation
abbrev pub yes_atom : ℕ → Literal ℕ
yes_atom a = Plain a false

abbrev pub no_atom : ℕ → Literal ℕ
no_atom a = Plain a true

-- with a, b and c the atoms 0, 1 and 2: `(not a)`, `(not c)`, `a b`, and `(not b) c`
abbrev pub four_clauses : List (List (Literal ℕ))
four_clauses = (no_atom 0 ∷ []) ∷ (no_atom 2 ∷ []) ∷ (yes_atom 0 ∷ yes_atom 1 ∷ []) ∷ (no_atom 1 ∷ yes_atom 2 ∷ []) ∷ []

-- all four clauses of a and b, which no truth values make true
abbrev pub all_signs : List (List (Literal ℕ))
all_signs =
    (yes_atom 0 ∷ yes_atom 1 ∷ []) ∷ (yes_atom 0 ∷ no_atom 1 ∷ []) ∷ (no_atom 0 ∷ yes_atom 1 ∷ []) ∷ (no_atom 0 ∷ no_atom 1 ∷ []) ∷ []
