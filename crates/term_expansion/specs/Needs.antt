-- Private. The variables that a term needs: those that stand in it once its lets are replaced.
use Rattle.std.specs.Prelude.{◌≡◌, ◌⊎◌, ℕ, List, [], ◌∷◌, ◌==◌, if◌then◌else◌, Option, Some, None, nat_eq, Vec}
use Rattle.std.specs.HashMap.{HashMap, get}
use Rattle.std.specs.declared.alloc.Global.{Global}
use Rattle.std.specs.declared.hash.BuildHasherDefault.{BuildHasherDefault}
use Rattle.std.specs.declared.hash.FoldHasher.{FoldHasher}
use Rattle.term_model.specs.Terms.{Var, Term, numeral, variable, operation, call, let_in, Terms, no_terms, term, Bindings, no_bindings, binding}
use Rattle.term_pool.specs.Views.{RefersTo}
use Rattle.term_expansion.specs.Free.{AddsLeaves}
use Rattle.term_expansion.specs.SymbolsAndTerms.{SymbolsAndTerms}

abbrev mutual
  pub IsNeeded : Var → Term → Type 0
  IsNeeded x (numeral n) = ⊥
  IsNeeded x (variable y) = y ≡ x
  IsNeeded x (operation op ts) = IsNeededAmong x ts
  IsNeeded x (call f ts) = IsNeededAmong x ts
  IsNeeded x (let_in bs t) = (y : Var) × IsNeeded y t × IsNeededFor x bs y

  pub IsNeededAmong : Var → Terms → Type 0
  IsNeededAmong x no_terms = ⊥
  IsNeededAmong x (term t ts) = IsNeeded x t ⊎ IsNeededAmong x ts

  -- in what the let gives the variable y; of a variable that it does not bind, the variable itself
  pub IsNeededFor : Var → Bindings → Var → Type 0
  IsNeededFor x no_bindings y = y ≡ x
  IsNeededFor x (binding z t bs) y = ((z ≡ y) × IsNeeded x t) ⊎ ((¬ (z ≡ y)) × IsNeededFor x bs y)

-- in one of the terms
abbrev pub IsNeededInAny : Var → List Term → Type 0
IsNeededInAny x [] = ⊥
IsNeededInAny x (t ∷ ts) = IsNeeded x t ⊎ IsNeededInAny x ts

-- the value that the first of these variables with this leaf is given
abbrev pub value_of : ℕ → List ℕ → List ℕ → Option ℕ
value_of k [] rs = None
value_of k (j ∷ ks) [] = None
value_of k (j ∷ ks) (r ∷ rs) = if j == k then Some r else value_of k ks rs

-- the values by the leaves of their variables
abbrev pub Values : Type 0
Values = HashMap ℕ ℕ (BuildHasherDefault FoldHasher)

abbrev pub AreValuesOf : Values → List ℕ → List ℕ → Type 0
AreValuesOf m ks rs = (k : ℕ) → get nat_eq m k ≡ value_of k ks rs

-- for some terms, told by their references, the leaves of the variables that they need
abbrev pub Needs : Type 0
Needs = HashMap ℕ (Vec ℕ Global) (BuildHasherDefault FoldHasher)

pub record HasNeeds (w : SymbolsAndTerms) (r : ℕ) (leaves : List ℕ) : Type 0 where
  pub means : Term
  pub refers : RefersTo w.symbols w.terms r means
  pub are : AddsLeaves w.symbols [] leaves (λ x. IsNeeded x means)

pub record AreNeeds (w : SymbolsAndTerms) (needs : Needs) : Type 0 where
  pub each : (r : ℕ) (leaves : Vec ℕ Global) → get nat_eq needs r ≡ Some leaves → HasNeeds w r leaves.items
