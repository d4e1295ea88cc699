-- Private. The parts of the closing of rule `let`, by references.
use Rattle.std.specs.Prelude.{◌≡◌, ◌⊎◌, ℕ, List, [], ◌∷◌, map, All}
use Rattle.std.specs.List.{AllZip}
use Rattle.sym_table.specs.Table.{Table, IsLeaf}
use Rattle.term_model.specs.Flips.{equality}
use Rattle.term_model.specs.FreeVariables.{IsFree, variables_of}
use Rattle.term_model.specs.Terms.{Var, Term, let_in, Bindings}
use Rattle.term_pool.specs.StandsFor.{variable_leaf}
use Rattle.term_pool.specs.Views.{TermsView, RefersTo}
use Rattle.rule_model.specs.Subproof.{EndsIn}
use Rattle.rule_model.specs.Congruence.{AreSides}
use Rattle.rule_model.specs.Proofs.{ProofItems}
use Rattle.rule_model.specs.Reading.{clause_at}

-- the clause is one equality, and the references stand for its sides
pub record IsUnitOf (s : Table) (v : TermsView) (p : ℕ × ℕ) (clause : List Term) : Type 0 where
  pub left : Term
  pub right : Term
  pub left_refers : RefersTo s v p.0 left
  pub right_refers : RefersTo s v p.1 right
  pub is : clause ≡ equality left right ∷ []

-- the clauses of these commands
abbrev pub clauses_at : ProofItems Var Term → List ℕ → List (List Term)
clauses_at proof js = map (clause_at proof) js

-- check mode: the terms are equal, or the sides of a premise
abbrev pub IsEqualBy : List (List Term) → Term → Term → Type 0
IsEqualBy premises t u = (t ≡ u) ⊎ AreSides premises t u

-- the clause at index i equates a let with a term, and scope k ends in the equality of its body with that
pub record EquatesLet (proof : ProofItems Var Term) (i k : ℕ) (bindings : Bindings) (body result : Term) : Type 0 where
  pub clause : clause_at proof i ≡ equality (let_in bindings body) result ∷ []
  pub ends : EndsIn proof k (equality body result ∷ [])

-- the references stand for such a let and term
pub record IsLetEquated (s : Table) (v : TermsView) (proof : ProofItems Var Term) (i k : ℕ) (p : ℕ × ℕ) : Type 0 where
  pub bindings : Bindings
  pub body : Term
  pub result : Term
  pub equates : EquatesLet proof i k bindings body result
  pub let_refers : RefersTo s v p.0 (let_in bindings body)
  pub result_refers : RefersTo s v p.1 result

-- the leaves of these variables, in order
abbrev pub AreLeavesOf : Table → List ℕ → List Var → Type 0
AreLeavesOf s ks xs = AllZip (λ k x. IsLeaf s k (variable_leaf x)) ks xs

-- the anchor binds the let's variables, in order, and none of them stands free in the term
pub record BindsAs (bound : List (Var × Term)) (bindings : Bindings) (result : Term) : Type 0 where
  pub variables : map (λ (b : Var × Term). b.0) bound ≡ variables_of bindings
  pub hidden : All (λ x. ¬ IsFree x result) (variables_of bindings)
