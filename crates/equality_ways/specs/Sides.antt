-- Public. The sides of equalities, place by place: of premises that are one, or of literals that deny one.
use Rattle.std.specs.Prelude.{◌≡◌, ◌≢◌, ℕ, List, [], ◌∷◌, Option, Some, None, slice_get}
use Rattle.std.specs.List.{AllZip}
use Rattle.rule_model.specs.Congruence.{IsChain}
use Rattle.sym_table.specs.Table.{Table}
use Rattle.term_model.specs.Flips.{equality}
use Rattle.term_model.specs.Terms.{Term, not_of}
use Rattle.term_pool.specs.Views.{TermsView, RefersTo}
use Rattle.equality_ways.specs.declared.pairs.Used.{Used}
use Rattle.equality_ways.specs.Ways.{turned_if}

-- the references stand for two terms
abbrev pub ReferToBoth : Table → TermsView → ℕ × ℕ → Term × Term → Type 0
ReferToBoth s v p e = RefersTo s v p.0 e.0 × RefersTo s v p.1 e.1

-- the sides of a clause that is one equality; none of another clause
abbrev pub AreSidesOfUnit : Table → TermsView → Option (ℕ × ℕ) → List Term → Type 0
AreSidesOfUnit s v (Some p) clause = (e : Term × Term) × ReferToBoth s v p e × (clause ≡ equality e.0 e.1 ∷ [])
AreSidesOfUnit s v None clause = (t u : Term) → clause ≢ equality t u ∷ []

abbrev pub AreSidesOfUnits : Table → TermsView → List (Option (ℕ × ℕ)) → List (List Term) → Type 0
AreSidesOfUnits s v sides clauses = AllZip (AreSidesOfUnit s v) sides clauses

-- the sides of the equality that a literal denies; none of another literal
abbrev pub AreSidesOfDenial : Table → TermsView → Option (ℕ × ℕ) → Term → Type 0
AreSidesOfDenial s v (Some p) literal = (e : Term × Term) × ReferToBoth s v p e × (literal ≡ not_of (equality e.0 e.1))
AreSidesOfDenial s v None literal = (t u : Term) → literal ≢ not_of (equality t u)

abbrev pub AreSidesOfDenials : Table → TermsView → List (Option (ℕ × ℕ)) → List Term → Type 0
AreSidesOfDenials s v sides literals = AllZip (AreSidesOfDenial s v) sides literals

-- the clause is the unit clause that is used, turned round where it is used so
abbrev pub IsUsedAs : List (List Term) → Used → List Term → Type 0
IsUsedAs premises u clause =
    (e : Term × Term) × (slice_get premises u.place ≡ Some (equality e.0 e.1 ∷ []))
    × (clause ≡ equality (turned_if u.turned e).0 (turned_if u.turned e).1 ∷ [])

-- the clauses, each as it is used, are a chain from one term to the other
pub record AreUsedInChain (premises : List (List Term)) (used : List Used) (t u : Term) : Type 0 where
  pub clauses : List (List Term)
  pub chain : IsChain clauses t u
  pub are : AllZip (IsUsedAs premises) used clauses
