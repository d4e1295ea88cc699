-- Public. Weights of terms of Int, which bound the numbers of their linear forms: the absolute values of a form's constant and
-- coefficients add up to at most the term's weight.
use Rattle.std.specs.Prelude.{ℕ, ℤ, ◌+◌, ◌*◌, max, if◌then◌else◌, List, [], ◌∷◌, unsigned_abs}
use Rattle.term_model.specs.declared.symbols.Op.{Op}
use Rattle.term_model.specs.Terms.{Term, numeral, operation, Terms, no_terms, term}
use Rattle.rule_model.specs.LinearForms.{is_linear}

-- Every weight is at least 1.
abbrev mutual
  pub weight : Term → ℕ
  weight (numeral n) = max n 1
  weight (operation Op.Plus ts) = max (weight_sum ts) 1
  weight (operation Op.Minus ts) = max (weight_sum ts) 1
  weight (operation Op.Times ts) = if is_linear ts then weight_product ts else 1
  weight t = 1

  pub weight_sum : Terms → ℕ
  weight_sum no_terms = 0
  weight_sum (term t ts) = weight t + weight_sum ts

  pub weight_product : Terms → ℕ
  weight_product no_terms = 1
  weight_product (term t ts) = weight t * weight_product ts

-- the sum of the absolute values
abbrev pub sizes : (Term → ℤ) → List Term → ℕ
sizes c [] = 0
sizes c (u ∷ us) = unsigned_abs (c u) + sizes c us
