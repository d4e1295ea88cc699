-- Public. Steps that are added to a block, each with a clause of one literal.
use Rattle.std.specs.Prelude.{◌≡◌, List, [], ◌∷◌, ◌++◌}
use Rattle.std.specs.List.{AllByRecursion}
use Rattle.proof_store.specs.AddedSteps.{AddedStep}
use Rattle.sym_table.specs.Table.{Table}
use Rattle.term_model.specs.Terms.{Term}
use Rattle.term_pool.specs.Views.{TermsView, ReferToAll}
use Rattle.equality_steps.specs.declared.site.Site.{Site}

-- the step's clause is one literal of a kind, and it has no pivots
pub record IsUnitOf (s : Table) (v : TermsView) (IsWanted : Term → Type 0) (a : AddedStep) : Type 0 where
  pub literal : Term
  pub stands : ReferToAll s v a.clause (literal ∷ [])
  pub wanted : IsWanted literal
  pub pivots : a.pivots ≡ []

-- behind the old steps stand such steps
pub record AddsUnits (p : Site) (v : TermsView) (old new : List AddedStep) (IsWanted : Term → Type 0) : Type 0 where
  pub added : List AddedStep
  pub is : new ≡ old ++ added
  pub units : AllByRecursion (IsUnitOf p.symbols.now v IsWanted) added
