-- Private. Bindings of variables to terms, by references.
use Rattle.std.specs.Prelude.{ℕ, List}
use Rattle.std.specs.List.{AllZip}
use Rattle.term_pool.specs.Bindings.{IsBindingOf}
use Rattle.sym_table.specs.Table.{Table}
use Rattle.term_model.specs.Terms.{Var, Term}
use Rattle.term_pool.specs.Views.{TermsView}

-- each binding is of a variable's leaf and a term
pub record BindTerms (s : Table) (v : TermsView) (bindings : List (ℕ × ℕ)) : Type 0 where
  pub bound : List (Var × Term)
  pub are : AllZip (IsBindingOf s v) bindings bound
