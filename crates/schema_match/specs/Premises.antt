-- Public. Premises that are unit clauses.
use Rattle.std.specs.Prelude.{◌≡◌, ◌≢◌, ℕ, List, [], ◌∷◌, map}
use Rattle.std.specs.Borrow.{Bor}

-- there is one premise, which has one literal
abbrev pub IsOneUnit : List (Bor (List ℕ)) → ℕ → Type 0
IsOneUnit premises r = map (λ p. p.now) premises ≡ (r ∷ []) ∷ []

abbrev pub IsNoUnit : List (Bor (List ℕ)) → Type 0
IsNoUnit premises = (r : ℕ) → map (λ p. p.now) premises ≢ (r ∷ []) ∷ []
