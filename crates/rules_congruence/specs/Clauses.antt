-- Private. Clauses of one literal, and steps of one premise or none, by references.
use Rattle.std.specs.Prelude.{◌≡◌, ◌≢◌, ℕ, List, [], ◌∷◌, map}
use Rattle.std.specs.Borrow.{Bor}

-- the clauses themselves
abbrev pub lists_of : List (Bor (List ℕ)) → List (List ℕ)
lists_of premises = map (λ (p : Bor (List ℕ)). p.now) premises

-- there is one premise, which has one literal
abbrev pub IsOneUnit : List (Bor (List ℕ)) → ℕ → Type 0
IsOneUnit premises r = lists_of premises ≡ (r ∷ []) ∷ []

abbrev pub IsNoUnit : List (Bor (List ℕ)) → Type 0
IsNoUnit premises = (r : ℕ) → lists_of premises ≢ (r ∷ []) ∷ []

-- there is no premise and one literal
abbrev pub IsLone : List (Bor (List ℕ)) → List ℕ → ℕ → Type 0
IsLone premises clause r = (lists_of premises ≡ []) × (clause ≡ r ∷ [])
