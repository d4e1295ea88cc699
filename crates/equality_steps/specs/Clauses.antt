-- Private. Clauses to which literals are added.
use Rattle.std.specs.Prelude.{◌≡◌, ℕ, List, ◌++◌}
use Rattle.sym_table.specs.Table.{Table}
use Rattle.term_model.specs.Terms.{Term}
use Rattle.term_pool.specs.Views.{TermsView, ReferToAll}

-- literals stand behind the others that stand for these terms
pub record AddsLiterals (s : Table) (v : TermsView) (old new : List ℕ) (ts : List Term) : Type 0 where
  pub more : List ℕ
  pub is : new ≡ old ++ more
  pub stand : ReferToAll s v more ts
