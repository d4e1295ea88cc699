-- Public. Putting terms in for the free variables of a term, all at once, where its lets stay and go on binding (Alethe,
-- contexts: the substitution of a context is applied to a term).
use Rattle.std.specs.Prelude.{◌≡◌, ◌⊎◌, not, [], ◌∷◌, filter}
use Rattle.std.specs.List.{AllByRecursion}
use Rattle.term_model.specs.FreeVariables.{IsClosed}
use Rattle.term_model.specs.Interpretations.{Interpretation}
use Rattle.term_model.specs.Meaning.{Valuation}
use Rattle.term_model.specs.Sorts.{IsOf}
use Rattle.term_model.specs.Terms.{Var, Term, numeral, variable, operation, call, let_in, Terms, no_terms, term, Bindings, no_bindings, binding}
use Rattle.rule_model.specs.Replacement.{Replacement, replaced_by, binds, values_put}

-- what is put in under a let: nothing for the variables that it binds
abbrev pub unbound : Bindings → Replacement → Replacement
unbound bs s = filter (λ b. not (binds bs b.0)) s

-- The term with these put in for its free variables. Where what is put in has no free variable, nothing gets bound.
abbrev mutual
  pub put_in : Replacement → Term → Term
  put_in s (numeral n) = numeral n
  put_in s (variable x) = replaced_by s x
  put_in s (operation op ts) = operation op (put_in_all s ts)
  put_in s (call f ts) = call f (put_in_all s ts)
  put_in s (let_in bs t) = let_in (put_in_bound s bs) (put_in (unbound bs s) t)

  pub put_in_all : Replacement → Terms → Terms
  put_in_all s no_terms = no_terms
  put_in_all s (term t ts) = term (put_in s t) (put_in_all s ts)

  -- a let binds nothing in the terms that it gives its variables
  pub put_in_bound : Replacement → Bindings → Bindings
  put_in_bound s no_bindings = no_bindings
  put_in_bound s (binding x t bs) = binding x (put_in s t) (put_in_bound s bs)

-- something is put in for the variable
abbrev pub Replaces : Replacement → Var → Type 0
Replaces [] x = ⊥
Replaces (b ∷ s) x = (b.0 ≡ x) ⊎ Replaces s x

-- what is put in has no free variable
abbrev pub AreClosed : Replacement → Type 0
AreClosed s = AllByRecursion (λ b. IsClosed b.1) s

-- what is put in has its variable's sort
abbrev pub HaveTheirSorts : Replacement → Type 0
HaveTheirSorts s = AllByRecursion (λ b. IsOf b.1 b.0.sort) s

-- the values of what is put in, where that has no free variable
abbrev pub image_values : Interpretation → Replacement → Valuation
image_values I s = values_put I [] s
