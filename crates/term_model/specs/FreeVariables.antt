-- Public. Free variables (SMT-LIB 2.6, on binders).
use Rattle.std.specs.Prelude.{◌≡◌, ◌⊎◌, List, [], ◌∷◌}
use Rattle.term_model.specs.Terms.{Var, Term, numeral, variable, operation, call, let_in, Terms, no_terms, term, Bindings, no_bindings, binding}

-- the variables that a let binds, in order
abbrev pub variables_of : Bindings → List Var
variables_of no_bindings = []
variables_of (binding x t bs) = x ∷ variables_of bs

-- the terms that a let gives them
abbrev pub bound_terms : Bindings → List Term
bound_terms no_bindings = []
bound_terms (binding x t bs) = t ∷ bound_terms bs

-- the let binds the variable
abbrev pub Binds : Bindings → Var → Type 0
Binds no_bindings x = ⊥
Binds (binding y t bs) x = (y ≡ x) ⊎ Binds bs x

abbrev mutual
  -- the variable stands free in the term
  pub IsFree : Var → Term → Type 0
  IsFree x (numeral n) = ⊥
  IsFree x (variable y) = y ≡ x
  IsFree x (operation op ts) = IsFreeAmong x ts
  IsFree x (call f ts) = IsFreeAmong x ts
  IsFree x (let_in bs t) = IsFreeBound x bs ⊎ ((¬ Binds bs x) × IsFree x t)

  -- in one of the terms
  pub IsFreeAmong : Var → Terms → Type 0
  IsFreeAmong x no_terms = ⊥
  IsFreeAmong x (term t ts) = IsFree x t ⊎ IsFreeAmong x ts

  -- in a term that the let gives a variable: the let binds nothing there
  pub IsFreeBound : Var → Bindings → Type 0
  IsFreeBound x no_bindings = ⊥
  IsFreeBound x (binding y t bs) = IsFree x t ⊎ IsFreeBound x bs

-- no variable stands free
abbrev pub IsClosed : Term → Type 0
IsClosed t = (x : Var) → ¬ IsFree x t
