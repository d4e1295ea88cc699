-- Private. What building terms over earlier ones needs of the table of symbols and of the pool.
use Rattle.std.specs.Prelude.{ℕ, ◌<◌, ◌^◌}
use Rattle.sym_table.specs.Table.{Table, IsLeaf}
use Rattle.term_model.specs.Terms.{Var, Fun, Term}
use Rattle.term_pool.specs.StandsFor.{variable_leaf, function_leaf}
use Rattle.term_pool.specs.Views.{TermsView, RefersTo}

-- leaf k stands for a declared function
pub record IsDeclaredLeaf (s : Table) (k : ℕ) : Type 0 where
  pub function : Fun
  pub leaf : IsLeaf s k (function_leaf function)
  pub small : k < 2 ^ 30

-- leaf k stands for a variable
pub record IsVariable (s : Table) (k : ℕ) : Type 0 where
  pub variable : Var
  pub leaf : IsLeaf s k (variable_leaf variable)
  pub small : k < 2 ^ 30

-- what stood for a declared function still does
abbrev pub KeepsHeads : Table → Table → Type 0
KeepsHeads old new = (k : ℕ) → IsDeclaredLeaf old k → IsDeclaredLeaf new k

-- what a reference stood for it still stands for
abbrev pub KeepsReferences : TermsView → TermsView → Type 0
KeepsReferences old new = (s : Table) (r : ℕ) (t : Term) → RefersTo s old r t → RefersTo s new r t
