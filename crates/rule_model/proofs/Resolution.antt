-- What a step of resolution concludes is true where its premises are.
use Rattle.std.proofs.Common.{◌≡◌, inl, inr, Bool, false, not, List, [], ◌∷◌, map, refl, sym, ◌∙◌, ap, arith, All}
use Rattle.std.proofs.lemmas.List.Elements.{All-head, All-tail, All-nil, All-cons}
use Rattle.term_model.specs.declared.symbols.Op.{Op}
use Rattle.term_model.specs.Terms.{Term, operation, no_terms, term, not_of}
use Rattle.term_model.specs.Values.{as_truth}
use Rattle.term_model.specs.Interpretations.{Interpretation}
use Rattle.term_model.specs.Meaning.{Valuation, value}
use Rattle.term_model.specs.Unsatisfiable.{MakesTrue}
use Rattle.term_model.proofs.Basics.{any_here, any_later, any_cases}
use Rattle.term_model.proofs.Meanings.{is_true, true_is}
use Rattle.rule_model.specs.declared.literal.Literal.TheVariants.{Plain}
use Rattle.rule_model.specs.Literals.{is_true_under, ClauseTrue}
use Rattle.rule_model.specs.Clauses.{MakesClauseTrue}
use Rattle.rule_model.specs.Resolution.{bare_literal, as_literal, as_clause, ResolvesInCheck}
use Rattle.rule_model.proofs.Consequence.{negation_of-truth, consequence_sound}

-- a term that is no negation is a constant, or an atom
pub bare_is_bare : (t : Term) → ((u : Term) → t ≡ not_of u → ⊥) → as_literal t ≡ bare_literal t
bare_is_bare (operation Op.Not (term t no_terms)) bare = absurd (bare t refl)
bare_is_bare t bare = refl

pub atom_is_plain : (t : Term) → (t ≡ operation Op.True no_terms → ⊥) → (t ≡ operation Op.False no_terms → ⊥) → bare_literal t ≡ Plain t false
atom_is_plain (operation Op.True no_terms) no_true no_false = absurd (no_true refl)
atom_is_plain (operation Op.False no_terms) no_true no_false = absurd (no_false refl)
atom_is_plain t no_true no_false = refl

module _ (I : Interpretation) (r : Valuation) where
  -- the truth value of each term
  abbrev pub truth_of : Term → Bool
  truth_of t = as_truth (value I r t)

  pub literal_truth : (t : Term) → is_true_under truth_of (as_literal t) ≡ truth_of t
  literal_truth (operation Op.Not (term t no_terms)) = negation_of-truth truth_of (as_literal t) ∙ ap not (literal_truth t)
  literal_truth (operation Op.Not no_terms) = refl
  literal_truth (operation Op.Not (term t (term u us))) = refl
  literal_truth (operation Op.True no_terms) = refl
  literal_truth (operation Op.True (term t ts)) = refl
  literal_truth (operation Op.False no_terms) = refl
  literal_truth (operation Op.False (term t ts)) = refl
  literal_truth t = refl

  clause_true : (clause : List Term) → MakesClauseTrue I r clause → ClauseTrue truth_of (as_clause clause)
  clause_true [] some = absurd (omega (arith, some.2))
  clause_true (t ∷ ts) some =
      elim (any_cases (MakesTrue I r) t ts some) [
        | inl here ↦ inl (literal_truth t ∙ true_is (value I r t) here)
        | inr later ↦ inr (clause_true ts later)
      ]

  true_clause : (clause : List Term) → ClauseTrue truth_of (as_clause clause) → MakesClauseTrue I r clause
  true_clause [] none = absurd none
  true_clause (t ∷ ts) (inl here) = any_here (MakesTrue I r) t ts (is_true (value I r t) (sym (literal_truth t) ∙ here))
  true_clause (t ∷ ts) (inr later) = any_later (MakesTrue I r) t ts (true_clause ts later)

  clauses_true : (premises : List (List Term)) → All (MakesClauseTrue I r) premises → All (ClauseTrue truth_of) (map as_clause premises)
  clauses_true [] all = All-nil (ClauseTrue truth_of)
  clauses_true (p ∷ ps) all =
      All-cons (ClauseTrue truth_of) (as_clause p) (map as_clause ps)
      (clause_true p (All-head (MakesClauseTrue I r) p ps all))
      (clauses_true ps (All-tail (MakesClauseTrue I r) p ps all))

  pub check_sound : (premises : List (List Term)) (clause : List Term) → ResolvesInCheck premises clause → All (MakesClauseTrue I r) premises → MakesClauseTrue I r clause
  check_sound premises clause resolves all =
      true_clause clause (consequence_sound (map as_clause premises) (as_clause clause) resolves truth_of (clauses_true premises all))
