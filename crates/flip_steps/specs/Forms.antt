-- Public. The form of a term over an order of sides of which only a part may be known: each equality of two terms, outside lets,
-- has that side first that is known to stand before the other. It is the form of `rule_model` as a relation, so that it stays as
-- more of the order comes to be known.
use Rattle.std.specs.Prelude.{◌≡◌, ◌⊎◌}
use Rattle.term_model.specs.declared.symbols.Op.{Op}
use Rattle.term_model.specs.Flips.{equality}
use Rattle.term_model.specs.Terms.{Term, numeral, variable, operation, call, let_in, Terms, no_terms, term}

-- two terms of which each stands before the other are one
abbrev pub IsAntisymmetric : (Term → Term → Type 0) → Type 0
IsAntisymmetric before = (a b : Term) → before a b → before b a → a ≡ b

-- the second term is the first one, but that an equality of two terms has its sides in order
abbrev pub HasSidesInOrder : (Term → Term → Type 0) → Term → Term → Type 0
HasSidesInOrder before (operation Op.Equal (term a (term b no_terms))) f =
    (before a b × (f ≡ equality a b)) ⊎ (before b a × (f ≡ equality b a))
HasSidesInOrder before v f = f ≡ v

abbrev mutual
  -- the second term is the form of the first
  pub IsFormOf : (Term → Term → Type 0) → Term → Term → Type 0
  IsFormOf before (numeral n) f = f ≡ numeral n
  IsFormOf before (variable x) f = f ≡ variable x
  IsFormOf before (operation op ts) f = (us : Terms) × AreFormsOf before ts us × HasSidesInOrder before (operation op us) f
  IsFormOf before (call g ts) f = (us : Terms) × AreFormsOf before ts us × (f ≡ call g us)
  IsFormOf before (let_in bs t) f = f ≡ let_in bs t

  -- as many terms, each the form of the one at its place
  pub AreFormsOf : (Term → Term → Type 0) → Terms → Terms → Type 0
  AreFormsOf before no_terms us = us ≡ no_terms
  AreFormsOf before (term t ts) no_terms = ⊥
  AreFormsOf before (term t ts) (term u us) = IsFormOf before t u × AreFormsOf before ts us
