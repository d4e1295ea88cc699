-- Private. How the leaves of the free variables of a term are gathered from its parts.
use Rattle.std.specs.Prelude.{◌≡◌, ◌⊎◌, ℕ, List, [], ◌∷◌, nat_eq, Some, Contains, Vec}
use Rattle.std.specs.HashMap.{HashMap, get}
use Rattle.std.specs.declared.alloc.Global.{Global}
use Rattle.std.specs.declared.hash.BuildHasherDefault.{BuildHasherDefault}
use Rattle.std.specs.declared.hash.FoldHasher.{FoldHasher}
use Rattle.term_model.specs.FreeVariables.{IsFree}
use Rattle.term_model.specs.Terms.{Var, Term, Bindings, let_in}
use Rattle.term_pool.specs.Building.{AreBindings}
use Rattle.term_pool.specs.Views.{RefersTo}
use Rattle.term_expansion.specs.Free.{HasVariable, AddsLeaves}
use Rattle.term_expansion.specs.SymbolsAndTerms.{SymbolsAndTerms}

-- the variable stands free in one of the terms
abbrev pub IsFreeInAny : Var → List Term → Type 0
IsFreeInAny x [] = ⊥
IsFreeInAny x (t ∷ ts) = IsFree x t ⊎ IsFreeInAny x ts

-- of a let that the reference stands for, the leaves of the variables that it binds, the references of what it gives them and
-- that of its body
abbrev pub ArePartsOfLet : SymbolsAndTerms → ℕ → List ℕ → List ℕ → ℕ → Type 0
ArePartsOfLet w r ks rs body =
    (bs : Bindings) (u : Term) → RefersTo w.symbols w.terms r (let_in bs u) → AreBindings w.symbols w.terms ks rs bs × RefersTo w.symbols w.terms body u

-- the leaves that were found have those of the free variables of each term that was seen
pub record CoversFree (w : SymbolsAndTerms) (seen found : List ℕ) : Type 0 where
  pub each : (r : ℕ) → Contains seen r → (t : Term) → RefersTo w.symbols w.terms r t → (x : Var) → IsFree x t → HasVariable w.symbols found x

-- for some bodies of lets the leaves of their free variables
abbrev pub Bodies : Type 0
Bodies = HashMap ℕ (Vec ℕ Global) (BuildHasherDefault FoldHasher)

-- what is kept for a body is right
pub record AreBodies (w : SymbolsAndTerms) (bodies : Bodies) : Type 0 where
  pub each : (r : ℕ) (leaves : Vec ℕ Global) → get nat_eq bodies r ≡ Some leaves → (t : Term) → RefersTo w.symbols w.terms r t →
      AddsLeaves w.symbols [] leaves.items (λ x. IsFree x t)
