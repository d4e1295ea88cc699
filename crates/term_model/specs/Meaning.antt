-- Public. The value of a term (SMT-LIB 2.6, on structures and satisfiability).
use Rattle.std.specs.Prelude.{pos, List, [], ◌∷◌, ◌++◌, if◌then◌else◌}
use Rattle.std.specs.List.{AllByRecursion}
use Rattle.term_model.specs.Terms.{Var, var_eq, Term, numeral, variable, operation, call, let_in, Terms, no_terms, term, Bindings, no_bindings, binding}
use Rattle.term_model.specs.Values.{Value, whole, HasSort, some_value}
use Rattle.term_model.specs.Operators.{meaning}
use Rattle.term_model.specs.Interpretations.{Interpretation, first_row}

-- values for variables, the innermost binding first
abbrev pub Valuation : Type 0
Valuation = List (Var × Value)

-- each value is one of its variable's sort
abbrev pub ValuationFits : Valuation → Type 0
ValuationFits r = AllByRecursion (λ b. HasSort b.0.sort b.1) r

-- the innermost value of the variable, and some value of its sort where it has none
abbrev pub value_at : Valuation → Var → Value
value_at [] x = some_value x.sort
value_at (b ∷ r) x = if var_eq b.0 x then b.1 else value_at r x

abbrev mutual
  pub value : Interpretation → Valuation → Term → Value
  value I r (numeral n) = whole (pos n)
  value I r (variable x) = value_at r x
  value I r (operation op ts) = meaning op (values I r ts)
  value I r (call f ts) = first_row (I.table f).rows (I.table f).default (values I r ts)
  value I r (let_in bs t) = value I (bound I r bs ++ r) t

  pub values : Interpretation → Valuation → Terms → List Value
  values I r no_terms = []
  values I r (term t ts) = value I r t ∷ values I r ts

  -- a let binds in parallel: each term has its value outside the let
  pub bound : Interpretation → Valuation → Bindings → Valuation
  bound I r no_bindings = []
  bound I r (binding x t bs) = (x, value I r t) ∷ bound I r bs
