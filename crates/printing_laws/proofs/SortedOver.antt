-- A proof over a vocabulary is well sorted.
use Rattle.std.proofs.Common.{ℕ, List, [], ◌∷◌}
use Rattle.std.specs.List.{AllByRecursion}
use Rattle.term_model.specs.declared.symbols.Sort.{Sort}
use Rattle.term_model.specs.Terms.{Var, Term}
use Rattle.rule_model.specs.Proofs.{ProofItems, no_items, with_assume, with_step, with_subproof}
use Rattle.rule_model.specs.Scopes.{Nesting, inner}
use Rattle.rule_model.specs.Truth.{IsLiteralIn, IsBindingIn, AreWellSorted}
use Rattle.readable_proofs.specs.Names.{Vocabulary}
use Rattle.readable_proofs.specs.ProofsOver.{IsTermIn, AreVariablesIn, AreIn}

module _ (v : Vocabulary) where
  literals_over : (nesting : Nesting Var Term) (ts : List Term) → AllByRecursion (λ t. IsTermIn v nesting t Sort.Bool) ts
      → AllByRecursion (IsLiteralIn nesting) ts
  literals_over nesting [] h = tt
  literals_over nesting (t ∷ ts) h = (record { sort = h.0.sorted; closed = h.0.closed }, literals_over nesting ts h.1)

  bindings_over : (nesting : Nesting Var Term) (earlier : List (List ℕ)) (bs : List (Var × Term)) → AreVariablesIn v nesting earlier bs
      → AllByRecursion (IsBindingIn nesting) bs
  bindings_over nesting earlier [] h = tt
  bindings_over nesting earlier (b ∷ bs) h = (
    record { sort = h.0.term.sorted; closed = h.0.term.closed },
    bindings_over nesting (b.0.name ∷ earlier) bs h.1,
  )

  pub sorted_over : (nesting : Nesting Var Term) (items : ProofItems Var Term) → AreIn v nesting items → AreWellSorted nesting items
  sorted_over nesting no_items h = tt
  sorted_over nesting (with_assume items id t) h = (sorted_over nesting items h.0, record { sort = h.1.sorted; closed = h.1.closed })
  sorted_over nesting (with_step items step) h = (sorted_over nesting items h.0, literals_over nesting step.clause h.1.clause)
  sorted_over nesting (with_subproof items bindings proof step) h = (
    sorted_over nesting items h.0,
    bindings_over nesting [] bindings h.1,
    sorted_over (inner nesting items bindings step) proof h.2,
    literals_over nesting step.clause h.3.clause,
  )
