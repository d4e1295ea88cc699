-- Public. Putting terms in for variables and for lets (SMT-LIB 2.6, on binders: a let means its body with the terms put
-- in for the variables that it binds).
use Rattle.std.specs.Prelude.{Bool, false, not, ◌||◌, List, [], ◌∷◌, ◌++◌, filter, if◌then◌else◌, ⊤}
use Rattle.term_model.specs.Terms.{Var, var_eq, Term, numeral, variable, operation, call, let_in, Terms, no_terms, term, Bindings, no_bindings, binding}
use Rattle.term_model.specs.Interpretations.{Interpretation}
use Rattle.term_model.specs.Meaning.{Valuation, value}

-- terms for variables, the innermost first
abbrev pub Replacement : Type 0
Replacement = List (Var × Term)

-- what is put in for a variable: itself where there is nothing else
abbrev pub replaced_by : Replacement → Var → Term
replaced_by [] x = variable x
replaced_by (b ∷ r) x = if var_eq b.0 x then b.1 else replaced_by r x

-- The term with all its lets replaced and the terms put in for its variables at once. Since no let is left, no
-- variable of what is put in gets bound.
unfoldable mutual
  pub replaced : Replacement → Term → Term
  replaced r (numeral n) = numeral n
  replaced r (variable x) = replaced_by r x
  replaced r (operation op ts) = operation op (replaced_all r ts)
  replaced r (call f ts) = call f (replaced_all r ts)
  replaced r (let_in bs t) = replaced (replaced_bindings r bs ++ r) t

  pub replaced_all : Replacement → Terms → Terms
  replaced_all r no_terms = no_terms
  replaced_all r (term t ts) = term (replaced r t) (replaced_all r ts)

  -- a let binds in parallel
  pub replaced_bindings : Replacement → Bindings → Replacement
  replaced_bindings r no_bindings = []
  replaced_bindings r (binding x t bs) = (x, replaced r t) ∷ replaced_bindings r bs

-- whether a let binds the variable
abbrev pub binds : Bindings → Var → Bool
binds no_bindings x = false
binds (binding y t bs) x = var_eq y x || binds bs x

-- the free variables of a term, as often as they stand in it
unfoldable mutual
  pub free_variables : Term → List Var
  free_variables (numeral n) = []
  free_variables (variable x) = x ∷ []
  free_variables (operation op ts) = free_among ts
  free_variables (call f ts) = free_among ts
  free_variables (let_in bs t) = free_bound bs ++ filter (λ x. not (binds bs x)) (free_variables t)

  pub free_among : Terms → List Var
  free_among no_terms = []
  free_among (term t ts) = free_variables t ++ free_among ts

  pub free_bound : Bindings → List Var
  free_bound no_bindings = []
  free_bound (binding x t bs) = free_variables t ++ free_bound bs

-- the term has no let
abbrev mutual
  pub HasNoLet : Term → Type 0
  HasNoLet (numeral n) = ⊤
  HasNoLet (variable x) = ⊤
  HasNoLet (operation op ts) = HaveNoLet ts
  HasNoLet (call f ts) = HaveNoLet ts
  HasNoLet (let_in bs t) = ⊥

  pub HaveNoLet : Terms → Type 0
  HaveNoLet no_terms = ⊤
  HaveNoLet (term t ts) = HasNoLet t × HaveNoLet ts

-- the values of the terms that are put in
abbrev pub values_put : Interpretation → Valuation → Replacement → Valuation
values_put I v [] = []
values_put I v (b ∷ r) = (b.0, value I v b.1) ∷ values_put I v r
