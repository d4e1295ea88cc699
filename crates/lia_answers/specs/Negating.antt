-- Private. A question that was read, the negations that are put into its pool, and the room that they need.
use Rattle.std.specs.Prelude.{◌≡◌, ◌≤◌, ◌*◌, ℕ, false, List, length, Contains}
use Rattle.std.specs.List.{AllByRecursion}
use Rattle.pair_pool.specs.Views.{PassView, IsPlaced}
use Rattle.sym_table.specs.Table.{Table}
use Rattle.term_model.specs.Terms.{Term, not_of}
use Rattle.term_pool.specs.Placing.{IsWantedCell}
use Rattle.term_pool.specs.Views.{TermsView, ReferToAll}
use Rattle.problem_text.specs.Problems.{StandsForProblem}
use Rattle.problem_text.specs.Scripts.{Script}
use Rattle.question_cells.specs.SymbolTrees.{HaveFewCells}
use Rattle.question_reading.specs.Questions.{IsLeftOut}

-- nothing stands in the pool but cells of these terms
abbrev pub HoldsOnly : Table → PassView → List Term → Type 0
HoldsOnly s pass terms = (r a b : ℕ) → IsPlaced pass r a b → IsWantedCell s pass (Contains terms) a b

-- the script of a question and the references of its assertions, in a pool in which nothing stands but its terms
pub record IsReadInto (question : List ℕ) (s : Table) (v : TermsView) (refs : List ℕ) (script : Script) : Type 0 where
  pub stands : StandsForProblem question false script
  pub sorts : script.sorts ≡ s.sorts
  pub assertions : ReferToAll s v refs script.assertions
  pub not_left_out : IsLeftOut question → ⊥
  pub holds : HoldsOnly s v.pass script.terms
  pub shares : v.pass.shares ≡ 65
  pub room : 4 * length question ≤ v.pass.places
  pub places : 4096 ≤ v.pass.places

-- the negations of some terms are among these
abbrev pub HaveNegations : List Term → List Term → Type 0
HaveNegations terms ts = AllByRecursion (λ t. Contains terms (not_of t)) ts

-- the pool has no more places than these terms have cells, among which the negations are and all that stood in it
abbrev pub IsPoolFull : Table → TermsView → List ℕ → Type 0
IsPoolFull s old refs =
    (terms ts : List Term) (most : ℕ) → ReferToAll s old refs ts → HaveNegations terms ts → old.pass.shares ≡ 65 → HoldsOnly s old.pass terms
    → HaveFewCells terms most → old.pass.places ≤ most
