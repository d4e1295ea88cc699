-- Public. Heights of terms.
use Rattle.std.specs.Prelude.{ℕ, ◌+◌, max}
use Rattle.term_model.specs.Terms.{Term, numeral, variable, operation, call, let_in, Terms, no_terms, term, Bindings, no_bindings, binding}

-- A leaf has height 1, and an application or a let one more than the highest of the terms in it.
unfoldable mutual
  pub height : Term → ℕ
  height (numeral n) = 1
  height (variable x) = 1
  height (operation op ts) = 1 + highest ts
  height (call f ts) = 1 + highest ts
  height (let_in bs t) = 1 + max (highest_bound bs) (height t)

  pub highest : Terms → ℕ
  highest no_terms = 0
  highest (term t ts) = max (height t) (highest ts)

  pub highest_bound : Bindings → ℕ
  highest_bound no_bindings = 0
  highest_bound (binding x t bs) = max (height t) (highest_bound bs)
