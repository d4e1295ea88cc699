-- Private. The problem of a question as it was read into a table and a pool.
use Rattle.std.specs.Prelude.{ℕ, false, List, Contains}
use Rattle.pair_pool.specs.Views.{IsPlaced}
use Rattle.sym_table.specs.Table.{Table}
use Rattle.problem_text.specs.Problems.{StandsForProblem}
use Rattle.problem_text.specs.Scripts.{Script}
use Rattle.term_pool.specs.Placing.{IsWantedCell}
use Rattle.term_pool.specs.Views.{TermsView}
use Rattle.term_reader.specs.ProblemViews.{ProblemView, IsProblemOf}

-- what was read, and nothing else stands in the pool
pub record IsReadInto (question : List ℕ) (s : Table) (v : TermsView) (p : ProblemView) : Type 0 where
  pub script : Script
  pub stands : StandsForProblem question false script
  pub problem : IsProblemOf s v p script
  pub holds : (r a b : ℕ) → IsPlaced v.pass r a b → IsWantedCell s v.pass (Contains script.terms) a b
