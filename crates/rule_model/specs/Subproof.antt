-- Public. The conditions of steps that close a scope (Alethe specification, "Subproofs", and the rules `subproof` and
-- `let`). The command at index i closes scope k.
use Rattle.std.specs.Prelude.{◌≡◌, ◌⊎◌, ◌<◌, ◌++◌, ℕ, List, [], ◌∷◌, map, flat_map, All, Contains, Some, true}
use Rattle.std.specs.List.{AllZip}
use Rattle.term_model.specs.declared.symbols.Op.{Op}
use Rattle.term_model.specs.Flips.{equality}
use Rattle.term_model.specs.FreeVariables.{IsFree, variables_of, bound_terms}
use Rattle.term_model.specs.Terms.{Var, Term, operation, let_in, Bindings, no_terms, not_of}
use Rattle.rule_model.specs.declared.rules.Mode.{Mode}
use Rattle.rule_model.specs.Congruence.{AreSides, AreDifferences}
use Rattle.rule_model.specs.Proofs.{ProofItems}
use Rattle.rule_model.specs.Reading.{rule_at, clause_at, premises_at, premise_clauses, discharged_at, scope_at, bindings_at, last_inside_at, is_assume}

-- the command at index j is an assume that stands directly in scope k, before the step that closes this
pub record IsAssumeIn {V T : Type 0} (proof : ProofItems V T) (i k j : ℕ) : Type 0 where
  pub before : j < i
  pub scope : scope_at proof j ≡ k
  pub assume : is_assume (rule_at proof j) ≡ true

-- every assume that stands directly in the scope is discharged by the step
abbrev pub AllDischarged : {V T : Type 0} → ProofItems V T → ℕ → ℕ → Type 0
AllDischarged proof i k = (j : ℕ) → IsAssumeIn proof i k j → Contains (discharged_at proof i) j

-- the clause of the last command that stands directly in the scope
pub record EndsIn {V T : Type 0} (proof : ProofItems V T) (k : ℕ) (clause : List T) : Type 0 where
  pub last : ℕ
  pub is_last : last_inside_at proof k ≡ Some last
  pub clause_is : clause_at proof last ≡ clause

-- the negations of the terms that the step discharges, in the order in which it names them
abbrev pub negations : ProofItems Var Term → ℕ → List Term
negations proof i = map not_of (flat_map (clause_at proof) (discharged_at proof i))

-- `false` may stand where a clause is empty
abbrev pub IsEnding : List Term → List Term → Type 0
IsEnding [] end = (end ≡ []) ⊎ (end ≡ operation Op.False no_terms ∷ [])
IsEnding (t ∷ ts) end = end ≡ t ∷ ts

-- subproof: the anchor binds nothing, there is no premise, every assume is discharged, and the clause is the negations of
-- the discharged terms with the clause behind them in which the scope ends.
pub record IsSubproof (proof : ProofItems Var Term) (i k : ℕ) : Type 0 where
  pub no_bindings : bindings_at proof k ≡ []
  pub no_premises : premises_at proof i ≡ []
  pub discharged : AllDischarged proof i k
  pub inner : List Term
  pub ends : EndsIn proof k inner
  pub end : List Term
  pub ending : IsEnding inner end
  pub clause : clause_at proof i ≡ negations proof i ++ end

-- What a let binds its variables to, and what an anchor does, are the sides of premises where they differ. Check mode: in
-- either order, and other premises are not used. Strict mode: these equalities are the premises, in order.
abbrev pub AreLinkedTo : Mode → List (List Term) → List Term → List Term → Type 0
AreLinkedTo Mode.Check premises ts ss = AllZip (λ t s. (t ≡ s) ⊎ AreSides premises t s) ts ss
AreLinkedTo Mode.Strict premises ts ss = AreDifferences premises ts ss

-- let: the clause is `(= (let ((x1 t1) .. (xn tn)) u) v)`, the anchor binds x1 .. xn in this order to s1 .. sn, the scope
-- has no assume and ends in `(= u v)`, no xi stands free in v, and the premises link each ti with si.
pub record IsLetClosing (mode : Mode) (proof : ProofItems Var Term) (i k : ℕ) : Type 0 where
  pub bindings : Bindings
  pub body : Term
  pub result : Term
  pub clause : clause_at proof i ≡ equality (let_in bindings body) result ∷ []
  pub no_assumes : (j : ℕ) → ¬ IsAssumeIn proof i k j
  pub ends : EndsIn proof k (equality body result ∷ [])
  pub variables : map (λ (b : Var × Term). b.0) (bindings_at proof k) ≡ variables_of bindings
  pub hidden : All (λ x. ¬ IsFree x result) (variables_of bindings)
  pub linked : AreLinkedTo mode (premise_clauses proof i) (bound_terms bindings) (map (λ (b : Var × Term). b.1) (bindings_at proof k))
