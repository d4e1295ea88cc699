-- Proofs over a vocabulary stay so over a larger one.
use Rattle.std.proofs.Common.{ℕ, List, [], ◌∷◌}
use Rattle.std.specs.Prelude.{⊤}
use Rattle.term_model.specs.declared.symbols.Sort.{Sort}
use Rattle.term_model.specs.Terms.{Var, Term}
use Rattle.rule_model.specs.Proofs.{Step, ProofItems, no_items, with_assume, with_step, with_subproof}
use Rattle.rule_model.specs.Scopes.{Nesting, outermost, inside, inner}
use Rattle.readable_proofs.specs.Names.{Vocabulary, IsVocabularyWithin}
use Rattle.readable_proofs.specs.ProofsOver.{IsTermIn, IsPivotIn, IsStepIn, AreVariablesIn, AreIn}
use Rattle.readable_proofs.proofs.Names.{all_more}
use Rattle.readable_proofs.proofs.Replaced.{still_of}

-- the scopes around one, and their anchors
abbrev pub AreAround : Vocabulary → Nesting Var Term → Type 0
AreAround v outermost = ⊤
AreAround v (inside around before top) = AreAround v around × AreIn v around before × AreVariablesIn v around [] top.bindings

module _ (v w : Vocabulary) (more : IsVocabularyWithin v w) where
  pub term_in_still : (nesting : Nesting Var Term) (t : Term) (sort : Sort) → IsTermIn v nesting t sort → IsTermIn w nesting t sort
  term_in_still nesting t sort h = record { of = still_of v w more t h.of; sorted = h.sorted; closed = h.closed }

  pub pivot_in_still : (nesting : Nesting Var Term) (t : Term) → IsPivotIn v nesting t → IsPivotIn w nesting t
  pivot_in_still nesting t h = record { sort = h.sort; is = term_in_still nesting t h.sort h.is }

  pub step_in_still : (nesting : Nesting Var Term) (step : Step Term) → IsStepIn v nesting step → IsStepIn w nesting step
  step_in_still nesting step h = record {
    clause =
        all_more (λ t. IsTermIn v nesting t Sort.Bool) (λ t. IsTermIn w nesting t Sort.Bool) step.clause
        (λ t k. term_in_still nesting t Sort.Bool k) h.clause;
    pivots =
        all_more (λ p. IsPivotIn v nesting p.0) (λ p. IsPivotIn w nesting p.0) step.pivots (λ p k. pivot_in_still nesting p.0 k) h.pivots;
  }

  pub variables_in_still : (nesting : Nesting Var Term) (earlier : List (List ℕ)) (bs : List (Var × Term)) → AreVariablesIn v nesting earlier bs
      → AreVariablesIn w nesting earlier bs
  variables_in_still nesting earlier [] h = tt
  variables_in_still nesting earlier (b ∷ bs) h = (
    record {
      named = more.variables b.0.name h.0.named;
      unbound = h.0.unbound;
      term = term_in_still nesting b.1 b.0.sort h.0.term;
    },
    variables_in_still nesting (b.0.name ∷ earlier) bs h.1,
  )

  pub items_in_still : (nesting : Nesting Var Term) (items : ProofItems Var Term) → AreIn v nesting items → AreIn w nesting items
  items_in_still nesting no_items h = tt
  items_in_still nesting (with_assume items id t) h = (items_in_still nesting items h.0, term_in_still nesting t Sort.Bool h.1)
  items_in_still nesting (with_step items step) h = (items_in_still nesting items h.0, step_in_still nesting step h.1)
  items_in_still nesting (with_subproof items bindings proof step) h = (
    items_in_still nesting items h.0,
    variables_in_still nesting [] bindings h.1,
    items_in_still (inner nesting items bindings step) proof h.2,
    step_in_still nesting step h.3,
  )

  pub around_still : (nesting : Nesting Var Term) → AreAround v nesting → AreAround w nesting
  around_still outermost h = tt
  around_still (inside around before top) h =
      (around_still around h.0, items_in_still around before h.1, variables_in_still around [] top.bindings h.2)
