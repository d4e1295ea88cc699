-- Public. When what is bound to a leaf is what is bound to a variable.
use Rattle.std.specs.Prelude.{ℕ}
use Rattle.sym_table.specs.Table.{Table, IsLeaf}
use Rattle.term_model.specs.Terms.{Var, Term}
use Rattle.term_pool.specs.StandsFor.{variable_leaf}
use Rattle.term_pool.specs.Views.{TermsView, RefersTo}

-- a leaf of a variable with a reference stands for the variable with its term
pub record IsBindingOf (s : Table) (v : TermsView) (b : ℕ × ℕ) (c : Var × Term) : Type 0 where
  pub variable : IsLeaf s b.0 (variable_leaf c.0)
  pub term : RefersTo s v b.1 c.1
