-- Private. How items come into the clause.
use Rattle.std.specs.Prelude.{◌≡◌, ◌⊎◌, List, [], ◌∷◌, ◌++◌, Contains}
use Rattle.rule_model.specs.Resolution.{LeavesWithout, IsFirstsOf}
use Rattle.clause_chain.specs.declared.signed_term.SignedTerm.{SignedTerm}

-- the item is added at the end, where it is not there yet
abbrev pub AddsMissing : List SignedTerm → SignedTerm → List SignedTerm → Type 0
AddsMissing old item new = (Contains old item × (new ≡ old)) ⊎ ((¬ Contains old item) × (new ≡ old ++ item ∷ []))

-- the items that are others than one of them are added in turn
pub record AddsOthers (there : SignedTerm) (old items new : List SignedTerm) : Type 0 where
  pub rest : List SignedTerm
  pub others : LeavesWithout there items rest
  pub more : List SignedTerm
  pub firsts : IsFirstsOf old rest more
  pub appended : new ≡ old ++ more

-- what is behind the list loses its repeats as if the list had been seen, and the list itself has none
abbrev pub StandsBefore : List SignedTerm → Type 0
StandsBefore list = (tail more : List SignedTerm) → IsFirstsOf list tail more → IsFirstsOf [] (list ++ tail) (list ++ more)
