-- Private. Clauses that are read item by item, and pivots.
use Rattle.std.specs.Prelude.{ℕ, Bool, List}
use Rattle.std.specs.Borrow.{Bor}
use Rattle.std.specs.Global.{Vec}
use Rattle.std.specs.List.{AllZip}
use Rattle.sym_table.specs.Table.{Table}
use Rattle.term_model.specs.Terms.{Term}
use Rattle.term_pool.specs.Views.{TermsView, RefersTo}
use Rattle.rule_model.specs.Resolution.{sides_of}
use Rattle.clause_chain.specs.declared.signed_term.SignedTerm.{SignedTerm}
use Rattle.rules_resolution.specs.SignedTerms.{StandsForSigned}

-- the lists have, in order, what each reference of each clause is read as
abbrev pub AreListsOf : {X : Type 0} → (ℕ → X → Type 0) → List (Bor (List ℕ)) → List (Vec X) → Type 0
AreListsOf Is = AllZip (λ references list. AllZip Is references.now list.items)

-- two terms with signs stand for what a pivot takes away
abbrev pub TakeAway : Table → TermsView → ℕ × Bool → SignedTerm × SignedTerm → Type 0
TakeAway s v pivot pair =
    (t : Term) → RefersTo s v pivot.0 t → StandsForSigned s v pair.0 (sides_of (t, pivot.1)).0 × StandsForSigned s v pair.1 (sides_of (t, pivot.1)).1
