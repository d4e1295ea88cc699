-- Public. What `put_in` takes, returns and places.
use Rattle.std.specs.Prelude.{ℕ, List, [], ◌∷◌, ◌++◌}
use Rattle.std.specs.List.{AllZip}
use Rattle.rule_model.specs.Replacement.{Replacement}
use Rattle.sym_table.specs.Table.{Table}
use Rattle.term_pool.specs.Bindings.{IsBindingOf}
use Rattle.term_pool.specs.Views.{TermsView}

-- by the table the bindings are these: each first part is the leaf of the variable at its place, and each second part
-- stands for that variable's term
abbrev pub StandForReplacement : Table → TermsView → List (ℕ × ℕ) → Replacement → Type 0
StandForReplacement s v bs q = AllZip (IsBindingOf s v) bs q

-- the bindings of several lists, joined in order
abbrev pub joined : List (List (ℕ × ℕ)) → List (ℕ × ℕ)
joined [] = []
joined (bs ∷ rest) = bs ++ joined rest

-- by the table the bindings are some replacement
pub record AreReplacementBy (s : Table) (v : TermsView) (bindings : List (ℕ × ℕ)) : Type 0 where
  pub means : Replacement
  pub are : StandForReplacement s v bindings means
