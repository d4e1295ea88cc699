-- The value of a term depends on its free variables alone.
use Rattle.std.proofs.Common.{◌≡◌, ◌∷◌, ◌++◌, Bool, true, false, ◌⊎◌, ◌↔◌, zero, suc, Any, Contains, arith, if◌then◌else◌, refl, ap, ◌∙◌, inl, inr}
use Rattle.term_model.specs.Terms.{Var, Term, numeral, variable, operation, call, let_in, Terms, no_terms, term, Bindings, no_bindings, binding, list_of, var_eq}
use Rattle.term_model.specs.Values.{Value}
use Rattle.term_model.specs.Operators.{meaning}
use Rattle.term_model.specs.Interpretations.{Interpretation, first_row}
use Rattle.term_model.specs.Meaning.{Valuation, value_at, value, values, bound}
use Rattle.term_model.specs.FreeVariables.{variables_of, bound_terms, Binds, IsFree, IsFreeAmong, IsFreeBound, IsClosed}
use Rattle.term_model.proofs.Basics.{else_branch, any_here, any_later, any_cases}
use Rattle.term_model.proofs.Tests.{var_eq_decides}

-- behind the bindings of a let, values matter only for the variables that it does not bind
pub value_at_bound : (I : Interpretation) (r₀ r r' : Valuation) (bs : Bindings) (x : Var) → (¬ Binds bs x → value_at r x ≡ value_at r' x) → value_at (bound I r₀ bs ++ r) x ≡ value_at (bound I r₀ bs ++ r') x
value_at_bound I r₀ r r' no_bindings x h = h (λ b. b)
value_at_bound I r₀ r r' (binding y t bs) x h =
    go (var_eq y x) refl (λ k. value_at_bound I r₀ r r' bs x k)
  where
    front : Bool → Valuation → Value
    front b s = if b then value I r₀ t else value_at (bound I r₀ bs ++ s) x

    go : (b : Bool) → var_eq y x ≡ b → ((¬ Binds bs x → value_at r x ≡ value_at r' x) → value_at (bound I r₀ bs ++ r) x ≡ value_at (bound I r₀ bs ++ r') x) → front b r ≡ front b r'
    go true e rest = refl
    go false e rest = rest (λ n. h (other n))
      where
        other : ¬ Binds bs x → ¬ Binds (binding y t bs) x
        other n = elim [ inl same ↦ absurd (let f = (var_eq_decides y x).1 same in cc) | inr later ↦ n later ]

mutual
  pub value_coincides : (I : Interpretation) (r r' : Valuation) (t : Term) → ((x : Var) → IsFree x t → value_at r x ≡ value_at r' x) → value I r t ≡ value I r' t
  value_coincides I r r' (numeral n) h = refl
  value_coincides I r r' (variable x) h = h x refl
  value_coincides I r r' (operation op ts) h = ap (meaning op) (values_coincide I r r' ts h)
  value_coincides I r r' (call f ts) h = ap (first_row (I.table f).rows (I.table f).default) (values_coincide I r r' ts h)
  value_coincides I r r' (let_in bs t) h =
      value_coincides I (bound I r bs ++ r) (bound I r bs ++ r') t (λ x free. value_at_bound I r r r' bs x (λ n. h x (inr (n, free))))
      ∙ ap (λ front. value I (front ++ r') t) (bound_coincides I r r' bs (λ x free. h x (inl free)))

  pub values_coincide : (I : Interpretation) (r r' : Valuation) (ts : Terms) → ((x : Var) → IsFreeAmong x ts → value_at r x ≡ value_at r' x) → values I r ts ≡ values I r' ts
  values_coincide I r r' no_terms h = refl
  values_coincide I r r' (term t ts) h =
      let e = value_coincides I r r' t (λ x free. h x (inl free)) in
      let f = values_coincide I r r' ts (λ x free. h x (inr free)) in
      cc

  pub bound_coincides : (I : Interpretation) (r r' : Valuation) (bs : Bindings) → ((x : Var) → IsFreeBound x bs → value_at r x ≡ value_at r' x) → bound I r bs ≡ bound I r' bs
  bound_coincides I r r' no_bindings h = refl
  bound_coincides I r r' (binding y t bs) h =
      let e = value_coincides I r r' t (λ x free. h x (inl free)) in
      let f = bound_coincides I r r' bs (λ x free. h x (inr free)) in
      ap (λ v. (y, v) ∷ bound I r bs) e ∙ ap (λ b. (y, value I r' t) ∷ b) f

-- a closed term has the same value under any values of variables
pub value_closed : (I : Interpretation) (r r' : Valuation) (t : Term) → IsClosed t → value I r t ≡ value I r' t
value_closed I r r' t closed = value_coincides I r r' t (λ x free. absurd (closed x free))

-- where a let binds a variable, and where a variable stands free in arguments
pub binds_is : (bs : Bindings) (x : Var) → Binds bs x ↔ Contains (variables_of bs) x
binds_is bs x = (there bs, back bs)
  where
    there : (bs : Bindings) → Binds bs x → Contains (variables_of bs) x
    there no_bindings h = absurd h
    there (binding y t bs) (inl same) = (0, omega arith, same)
    there (binding y t bs) (inr later) = let (k, below, same) = there bs later in (suc k, omega arith, same)

    back : (bs : Bindings) → Contains (variables_of bs) x → Binds bs x
    back no_bindings (k, below, same) = absurd (omega arith)
    back (binding y t bs) (zero, below, same) = inl same
    back (binding y t bs) (suc k, below, same) = inr (back bs (k, omega arith, same))

pub free_among_is : (x : Var) (ts : Terms) → IsFreeAmong x ts ↔ Any (IsFree x) (list_of ts)
free_among_is x ts = (there ts, back ts)
  where
    there : (ts : Terms) → IsFreeAmong x ts → Any (IsFree x) (list_of ts)
    there no_terms h = absurd h
    there (term t ts) (inl here) = any_here (IsFree x) t (list_of ts) here
    there (term t ts) (inr later) = any_later (IsFree x) t (list_of ts) (there ts later)

    back : (ts : Terms) → Any (IsFree x) (list_of ts) → IsFreeAmong x ts
    back no_terms (k, u, below, same, free) = absurd (omega arith)
    back (term t ts) h = cases (back ts) (any_cases (IsFree x) t (list_of ts) h)
      where
        cases : (Any (IsFree x) (list_of ts) → IsFreeAmong x ts) → IsFree x t ⊎ Any (IsFree x) (list_of ts) → IsFree x t ⊎ IsFreeAmong x ts
        cases rest (inl here) = inl here
        cases rest (inr later) = inr (rest later)

pub free_bound_is : (x : Var) (bs : Bindings) → IsFreeBound x bs ↔ Any (IsFree x) (bound_terms bs)
free_bound_is x bs = (there bs, back bs)
  where
    there : (bs : Bindings) → IsFreeBound x bs → Any (IsFree x) (bound_terms bs)
    there no_bindings h = absurd h
    there (binding y t bs) (inl here) = any_here (IsFree x) t (bound_terms bs) here
    there (binding y t bs) (inr later) = any_later (IsFree x) t (bound_terms bs) (there bs later)

    back : (bs : Bindings) → Any (IsFree x) (bound_terms bs) → IsFreeBound x bs
    back no_bindings (k, u, below, same, free) = absurd (omega arith)
    back (binding y t bs) h = cases (back bs) (any_cases (IsFree x) t (bound_terms bs) h)
      where
        cases : (Any (IsFree x) (bound_terms bs) → IsFreeBound x bs) → IsFree x t ⊎ Any (IsFree x) (bound_terms bs) → IsFree x t ⊎ IsFreeBound x bs
        cases rest (inl here) = inl here
        cases rest (inr later) = inr (rest later)

-- a variable that a let binds is free in it in the let's terms alone
pub bound_not_free : (x : Var) (bs : Bindings) (t : Term) → Binds bs x → IsFree x (let_in bs t) → Any (IsFree x) (bound_terms bs)
bound_not_free x bs t h = elim [ inl free ↦ (free_bound_is x bs).0 free | inr free ↦ absurd (free.0 h) ]

-- behind the bindings of a let, a variable that it does not bind has the value from outside
pub value_at_unbound : (I : Interpretation) (r₀ r : Valuation) (bs : Bindings) (x : Var) → ¬ Binds bs x → value_at (bound I r₀ bs ++ r) x ≡ value_at r x
value_at_unbound I r₀ r no_bindings x n = refl
value_at_unbound I r₀ r (binding y t bs) x n =
    else_branch (var_eq y x) (value I r₀ t) (value_at (bound I r₀ bs ++ r) x) (λ e. n (inl ((var_eq_decides y x).0 e)))
    ∙ value_at_unbound I r₀ r bs x (λ h. n (inr h))
