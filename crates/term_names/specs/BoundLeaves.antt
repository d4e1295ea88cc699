-- Private. The leaves of variables that are in scope, and what these stand for there.
use Rattle.std.specs.Prelude.{◌≡◌, ℕ, List, Contains, true}
use Rattle.std.specs.List.{list_all}
use Rattle.sym_table.specs.Table.{Table, IsLeaf}
use Rattle.term_model.specs.Terms.{Var}
use Rattle.term_pool.specs.StandsFor.{variable_leaf}
use Rattle.term_pool.specs.Views.{TermsView}
use Rattle.term_expansion.specs.Free.{AreFreeLeaves}
use Rattle.term_names.specs.InScope.{IsScope}
use Rattle.problem_text.specs.Names.{Bound, is_bound, replacement}
use Rattle.rule_model.specs.Replacement.{Replacement, replaced_by}
use Rattle.term_names.specs.Scope.{Scoped}
use Rattle.term_expansion.specs.Values.{IsReplacement}
use Rattle.term_expansion.specs.declared.values.Bound as held
use Rattle.term_expansion.specs.SymbolsAndTerms.{both, SymbolsAndTerms}

-- the leaf is that of a variable that is bound in this scope
pub record IsBoundLeaf (s : Table) (scope : List Scoped) (leaf : ℕ) : Type 0 where
  pub view : TermsView
  pub means : List Bound
  pub variable : Var
  pub in_scope : IsScope (both s view) scope means
  pub leaf_of : IsLeaf s leaf (variable_leaf variable)
  pub bound : is_bound means variable ≡ true

-- the leaves are those of variables that are all bound in this scope
pub record AreBoundLeaves (s : Table) (scope : List Scoped) (leaves : List ℕ) : Type 0 where
  pub view : TermsView
  pub means : List Bound
  pub variables : List Var
  pub in_scope : IsScope (both s view) scope means
  pub leaves_of : AreFreeLeaves s leaves variables
  pub bound : list_all (is_bound means) variables ≡ true

-- the list puts in for these variables what they stand for in the scope
pub record PutsInBound (w : SymbolsAndTerms) (list : List held.Bound) (scope : List Bound) (xs : List Var) : Type 0 where
  pub means : Replacement
  pub is : IsReplacement w list means
  pub same : (x : Var) → Contains xs x → replaced_by means x ≡ replaced_by (replacement scope) x
