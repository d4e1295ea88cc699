-- Private. The equalities of a step as pairs of references.
use Rattle.std.specs.Prelude.{◌≡◌, ◌≢◌, ℕ, Bool, true, false, List, [], ◌∷◌}
use Rattle.std.specs.List.{AllZip}
use Rattle.sym_table.specs.Table.{Table}
use Rattle.term_model.specs.Flips.{equality}
use Rattle.term_model.specs.Terms.{Term}
use Rattle.term_pool.specs.Views.{TermsView, RefersTo}
use Rattle.rule_model.specs.Congruence.{denials}

-- a pair of references stands for a pair of terms
abbrev pub ReferToPair : Table → TermsView → (ℕ × ℕ) → (Term × Term) → Type 0
ReferToPair s v p e = RefersTo s v p.0 e.0 × RefersTo s v p.1 e.1

-- pairs of references stand for pairs of terms, in order
abbrev pub ReferToPairs : Table → TermsView → List (ℕ × ℕ) → List (Term × Term) → Type 0
ReferToPairs s v pairs equalities = AllZip (ReferToPair s v) pairs equalities

-- no equality of two terms as a unit clause
abbrev pub IsNoEquation : List Term → Type 0
IsNoEquation clause = (t u : Term) → clause ≢ equality t u ∷ []

-- the sides of those premises that are equalities as unit clauses, in order, and whether all are
pub data AreEqualitiesOf : List (List Term) → List (Term × Term) → Bool → Type 0 where
  nothing : AreEqualitiesOf [] [] true
  one : (t u : Term) (premises : List (List Term)) (equalities : List (Term × Term)) (only : Bool) →
      AreEqualitiesOf premises equalities only → AreEqualitiesOf ((equality t u ∷ []) ∷ premises) ((t, u) ∷ equalities) only
  other : (clause : List Term) (premises : List (List Term)) (equalities : List (Term × Term)) (only : Bool) →
      IsNoEquation clause → AreEqualitiesOf premises equalities only → AreEqualitiesOf (clause ∷ premises) equalities false

-- the references are those of the premises' equalities
pub record IsGiven (s : Table) (v : TermsView) (pairs : List (ℕ × ℕ)) (only : Bool) (premises : List (List Term)) : Type 0 where
  pub equalities : List (Term × Term)
  pub refer : ReferToPairs s v pairs equalities
  pub gathered : AreEqualitiesOf premises equalities only

-- the references are the sides of the equality that is the clause's one literal
pub record IsUnitOf (s : Table) (v : TermsView) (p : ℕ × ℕ) (clause : List Term) : Type 0 where
  pub left : Term
  pub right : Term
  pub left_refers : RefersTo s v p.0 left
  pub right_refers : RefersTo s v p.1 right
  pub is : clause ≡ equality left right ∷ []

-- the literals deny the equalities whose sides the references are, in order
pub record AreDenied (s : Table) (v : TermsView) (pairs : List (ℕ × ℕ)) (literals : List Term) : Type 0 where
  pub equalities : List (Term × Term)
  pub refer : ReferToPairs s v pairs equalities
  pub are : literals ≡ denials equalities
