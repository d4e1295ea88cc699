-- Chains of more than two arguments, and the comparisons of numbers.
use Rattle.std.proofs.Common.{◌≡◌, ℤ, ◌≤ℤ◌, ◌<ℤ◌, int_le, int_lt, [], ◌∷◌, Bool, true, false, ◌&&◌, ◌↔◌, refl, sym, ap, ◌∙◌, arith}
use Rattle.std.proofs.lemmas.Int.{ints}
use Rattle.term_model.specs.declared.symbols.Op.{Op}
use Rattle.term_model.specs.Terms.{Term, operation, Terms, term, terms_of}
use Rattle.term_model.specs.Values.{truth, as_whole}
use Rattle.term_model.specs.Interpretations.{Interpretation}
use Rattle.term_model.specs.Meaning.{Valuation, value}
use Rattle.term_model.specs.Unsatisfiable.{MakesTrue}
use Rattle.term_model.proofs.Basics.{and-true}
use Rattle.term_model.proofs.Meanings.{truth_is}

-- a chain of two or more is the first link and the rest of the chain
and_links : (a b : Bool) → (a && b) ≡ ((a && true) && (b && true))
and_links true b = sym (and-true b)
and_links false b = refl

pub equal_chained : (I : Interpretation) (r : Valuation) (s t : Term) (ts : Terms) → value I r (operation Op.Equal (term s (term t ts))) ≡ value I r (operation Op.And (terms_of (operation Op.Equal (terms_of (s ∷ t ∷ [])) ∷ operation Op.Equal (term t ts) ∷ [])))
equal_chained I r s t ts = ap truth (and_links _ _)

pub less_eq_chained : (I : Interpretation) (r : Valuation) (s t : Term) (ts : Terms) → value I r (operation Op.LessEq (term s (term t ts))) ≡ value I r (operation Op.And (terms_of (operation Op.LessEq (terms_of (s ∷ t ∷ [])) ∷ operation Op.LessEq (term t ts) ∷ [])))
less_eq_chained I r s t ts = ap truth (and_links _ _)

pub less_chained : (I : Interpretation) (r : Valuation) (s t : Term) (ts : Terms) → value I r (operation Op.Less (term s (term t ts))) ≡ value I r (operation Op.And (terms_of (operation Op.Less (terms_of (s ∷ t ∷ [])) ∷ operation Op.Less (term t ts) ∷ [])))
less_chained I r s t ts = ap truth (and_links _ _)

pub greater_eq_chained : (I : Interpretation) (r : Valuation) (s t : Term) (ts : Terms) → value I r (operation Op.GreaterEq (term s (term t ts))) ≡ value I r (operation Op.And (terms_of (operation Op.GreaterEq (terms_of (s ∷ t ∷ [])) ∷ operation Op.GreaterEq (term t ts) ∷ [])))
greater_eq_chained I r s t ts = ap truth (and_links _ _)

pub greater_chained : (I : Interpretation) (r : Valuation) (s t : Term) (ts : Terms) → value I r (operation Op.Greater (term s (term t ts))) ≡ value I r (operation Op.And (terms_of (operation Op.Greater (terms_of (s ∷ t ∷ [])) ∷ operation Op.Greater (term t ts) ∷ [])))
greater_chained I r s t ts = ap truth (and_links _ _)

int_le_is : (a b : ℤ) → (int_le a b ≡ true) ↔ (a ≤ℤ b)
int_le_is a b = (λ e. grind (arith, ints), λ h. grind (arith, ints))

int_lt_is : (a b : ℤ) → (int_lt a b ≡ true) ↔ (a <ℤ b)
int_lt_is a b = (λ e. grind (arith, ints), λ h. grind (arith, ints))

pub less_eq_is : (I : Interpretation) (r : Valuation) (s t : Term) → MakesTrue I r (operation Op.LessEq (terms_of (s ∷ t ∷ []))) ↔ (as_whole (value I r s) ≤ℤ as_whole (value I r t))
less_eq_is I r s t = go (as_whole (value I r s)) (as_whole (value I r t))
  where
    go : (a b : ℤ) → (truth (int_le a b && true) ≡ truth true) ↔ (a ≤ℤ b)
    go a b = (λ e. (int_le_is a b).0 (sym (and-true (int_le a b)) ∙ truth_is _ e), λ h. ap truth (and-true (int_le a b) ∙ (int_le_is a b).1 h))

pub less_is : (I : Interpretation) (r : Valuation) (s t : Term) → MakesTrue I r (operation Op.Less (terms_of (s ∷ t ∷ []))) ↔ (as_whole (value I r s) <ℤ as_whole (value I r t))
less_is I r s t = go (as_whole (value I r s)) (as_whole (value I r t))
  where
    go : (a b : ℤ) → (truth (int_lt a b && true) ≡ truth true) ↔ (a <ℤ b)
    go a b = (λ e. (int_lt_is a b).0 (sym (and-true (int_lt a b)) ∙ truth_is _ e), λ h. ap truth (and-true (int_lt a b) ∙ (int_lt_is a b).1 h))
