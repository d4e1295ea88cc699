-- Private. References of terms, and clauses of such.
use Rattle.std.specs.Prelude.{ℕ, List, All}
use Rattle.std.specs.Borrow.{Bor}
use Rattle.sym_table.specs.Table.{Table}
use Rattle.term_pool.specs.Views.{TermsView, IsTerm}

-- all are references of terms
abbrev pub AreTerms : Table → TermsView → List ℕ → Type 0
AreTerms s v references = All (IsTerm s v) references

abbrev pub AreClauses : Table → TermsView → List (Bor (List ℕ)) → Type 0
AreClauses s v premises = All (λ (references : Bor (List ℕ)). AreTerms s v references.now) premises
