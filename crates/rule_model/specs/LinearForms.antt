-- Public. Linear forms of terms of Int: a constant and a coefficient for each opaque term (Alethe specification, "List of
-- rules": la_generic). A product is linear in which at most one factor is no constant; other products are opaque, as is
-- every term whose head is none of `+`, `-` and `*`.
use Rattle.std.specs.Prelude.{ℕ, ℤ, pos, ◌+◌, ◌+ℤ◌, ◌*ℤ◌, Bool, true, false, ◌≡◌, List, [], ◌∷◌, ◌++◌, is_some, nat_le, if◌then◌else◌, ⊤}
use Rattle.std.specs.List.{AllByRecursion, list_any}
use Rattle.term_model.specs.declared.symbols.Op.{Op}
use Rattle.term_model.specs.Operators.{from_left, difference}
use Rattle.term_model.specs.Terms.{Term, numeral, operation, Terms, no_terms, term}
use Rattle.rule_model.specs.Constants.{constant_of}
use Rattle.rule_model.specs.TermTests.{term_eq}

abbrev pub is_constant : Term → Bool
is_constant t = is_some (constant_of t)

-- how many factors are no constants
abbrev pub others : Terms → ℕ
others no_terms = 0
others (term t ts) = (if is_constant t then 0 else 1) + others ts

abbrev pub is_linear : Terms → Bool
is_linear ts = nat_le (others ts) 1

abbrev pub product : List ℤ → ℤ
product = from_left ◌*ℤ◌ (pos 1)

-- the constant of the form
abbrev mutual
  pub constant : Term → ℤ
  constant (numeral n) = pos n
  constant (operation Op.Plus ts) = from_left ◌+ℤ◌ (pos 0) (constants ts)
  constant (operation Op.Minus ts) = difference (constants ts)
  constant (operation Op.Times ts) = if is_linear ts then product (constants ts) else pos 0
  constant t = pos 0

  pub constants : Terms → List ℤ
  constants no_terms = []
  constants (term t ts) = constant t ∷ constants ts

-- What is left of the form, where each opaque term counts so much.
abbrev mutual
  pub part : (Term → ℤ) → Term → ℤ
  part w (numeral n) = pos 0
  part w (operation Op.Plus ts) = from_left ◌+ℤ◌ (pos 0) (form_parts w ts)
  part w (operation Op.Minus ts) = difference (form_parts w ts)
  part w (operation Op.Times ts) = if is_linear ts then product_part w ts else w (operation Op.Times ts)
  part w t = w t

  pub form_parts : (Term → ℤ) → Terms → List ℤ
  form_parts w no_terms = []
  form_parts w (term t ts) = part w t ∷ form_parts w ts

  -- the form of the factor that is no constant, times the constants
  pub product_part : (Term → ℤ) → Terms → ℤ
  product_part w no_terms = pos 0
  product_part w (term t ts) =
      if is_constant t then constant t *ℤ product_part w ts else part w t *ℤ product (constants ts)

-- the coefficient of an opaque term: what is left where this term counts one and all others nothing
abbrev pub one_at : Term → Term → ℤ
one_at u t = if term_eq t u then pos 1 else pos 0

abbrev pub coefficient : Term → Term → ℤ
coefficient t u = part (one_at u) t

-- two terms have one form
pub record HaveOneForm (t u : Term) : Type 0 where
  pub constants_are : constant t ≡ constant u
  pub coefficients_are : (x : Term) → coefficient t x ≡ coefficient u x

-- the opaque terms of a form
abbrev mutual
  pub opaque_terms : Term → List Term
  opaque_terms (numeral n) = []
  opaque_terms (operation Op.Plus ts) = opaque_among ts
  opaque_terms (operation Op.Minus ts) = opaque_among ts
  opaque_terms (operation Op.Times ts) = if is_linear ts then opaque_among ts else operation Op.Times ts ∷ []
  opaque_terms t = t ∷ []

  pub opaque_among : Terms → List Term
  opaque_among no_terms = []
  opaque_among (term t ts) = opaque_terms t ++ opaque_among ts

-- the sum of the products of coefficients and values
abbrev pub dot : (Term → ℤ) → (Term → ℤ) → List Term → ℤ
dot c v [] = pos 0
dot c v (u ∷ us) = c u *ℤ v u +ℤ dot c v us

-- no term stands twice in a list, and the opaque terms of a term are in a list
abbrev pub is_listed : List Term → Term → Bool
is_listed us t = list_any (term_eq t) us

abbrev pub AreDistinct : List Term → Type 0
AreDistinct [] = ⊤
AreDistinct (u ∷ us) = (is_listed us u ≡ false) × AreDistinct us

abbrev pub Covers : List Term → Term → Type 0
Covers us t = AllByRecursion (λ u. is_listed us u ≡ true) (opaque_terms t)
