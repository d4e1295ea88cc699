-- Private. What one step on the way down to the sort of a term comes to.
use Rattle.std.specs.Prelude.{◌≡◌, ℕ, ◌<◌}
use Rattle.sym_table.specs.Leaf.{operator}
use Rattle.sym_table.specs.Table.{Table, IsLeaf}
use Rattle.term_model.specs.declared.symbols.Sort.{Sort}
use Rattle.term_model.specs.Sorts.{IsOf}
use Rattle.term_model.specs.Terms.{Var, Term, numeral, variable, operation, call, let_in}
use Rattle.term_model.specs.Heights.{height}
use Rattle.term_pool.specs.StandsFor.{variable_leaf, function_leaf}
use Rattle.term_pool.specs.Views.{TermsView, RefersTo}
use Rattle.sort_check.specs.WellSorted.{IsWellSortedTerm}
use Rattle.sort_check.specs.declared.descent.Step.{Step}
use Rattle.sort_check.specs.declared.descent.Step.TheVariants.{Found, Below}

-- leaf k is there, and stands for a variable
pub record IsVariable (s : Table) (k : ℕ) : Type 0 where
  pub name : Var
  pub leaf : IsLeaf s k (variable_leaf name)

-- the term is an application of the symbol of leaf k
abbrev pub IsHeadOf : Table → ℕ → Term → Type 0
IsHeadOf s k (numeral n) = ⊥
IsHeadOf s k (variable x) = ⊥
IsHeadOf s k (operation op ts) = IsLeaf s k (operator op)
IsHeadOf s k (call f ts) = IsLeaf s k (function_leaf f)
IsHeadOf s k (let_in bs u) = ⊥

-- r stands for a well-sorted application of the symbol of leaf k
pub record IsWellSortedApplication (s : Table) (v : TermsView) (r k : ℕ) : Type 0 where
  pub term : IsWellSortedTerm s v r
  pub head : IsHeadOf s k term.means

-- r stands for a term of this sort that is lower than t
pub record IsLower (s : Table) (v : TermsView) (t : Term) (sort : Sort) (r : ℕ) : Type 0 where
  pub lower : Term
  pub refers : RefersTo s v r lower
  pub of : IsOf lower sort
  pub below : height lower < height t

-- a step down from the term t, which is of this sort, has found the sort, or a lower term of it
abbrev pub IsStep : Table → TermsView → Term → Sort → Step → Type 0
IsStep s v t sort (Found u) = u ≡ sort
IsStep s v t sort (Below r) = IsLower s v t sort r
