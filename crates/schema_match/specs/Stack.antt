-- Public. Terms on a stack.
use Rattle.std.specs.Prelude.{ℕ, List, reverse}
use Rattle.sym_table.specs.Table.{Table}
use Rattle.term_model.specs.Terms.{Term}
use Rattle.term_pool.specs.Views.{TermsView, ReferToAll}

-- The items stand for terms, the first of which is at the top: a stack grows at the end of its list.
abbrev pub StackOf : Table → TermsView → List ℕ → List Term → Type 0
StackOf s v items ts = ReferToAll s v (reverse items) ts

pub record IsStack (s : Table) (v : TermsView) (items : List ℕ) : Type 0 where
  pub terms : List Term
  pub refer : StackOf s v items terms
