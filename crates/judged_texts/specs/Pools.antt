-- Public. The pool that the reading of the two texts begins with, and what stands in it.
use Rattle.std.specs.Prelude.{◌≡◌, ◌⊎◌, ◌*◌, ◌^◌, ◌<◌, ◌≤◌, ℕ, List, Bool}
use Rattle.pair_pool.specs.Views.{PassView, IsPlaced}
use Rattle.sym_table.specs.Table.{Table}
use Rattle.term_model.specs.Terms.{Term}
use Rattle.term_pool.specs.Views.{TermsView}
use Rattle.term_pool.specs.Placing.{IsWantedCell}
use Rattle.term_reader.specs.ProblemViews.{ProblemView, IsProblemOf}
use Rattle.problem_text.specs.Problems.{StandsForProblem}
use Rattle.problem_text.specs.Scripts.{Script}

-- The least number of bits from 12 on with a place for each four bytes, and `most` where that is less.
pub record IsPoolSize (bytes most bits : ℕ) : Type 0 where
  pub least : 12 ≤ bits
  pub within : bits ≤ most
  pub enough : (bytes ≤ 4 * 2 ^ bits) ⊎ (bits ≡ most)
  pub smallest : (fewer : ℕ) → 12 ≤ fewer → fewer < bits → 4 * 2 ^ fewer < bytes

-- the pool has 2^bits places
pub record HasBits (pass : PassView) : Type 0 where
  pub bits : ℕ
  pub are : pass.places ≡ 2 ^ bits

-- what stands in the pass are cells of terms that are wanted
abbrev pub HoldsOnly : Table → PassView → (Term → Type 0) → Type 0
HoldsOnly s pass IsWanted = (r a b : ℕ) → IsPlaced pass r a b → IsWantedCell s pass IsWanted a b

-- what was read of the problem's text, in a table and a pool
pub record IsReadProblem (text : List ℕ) (replaces_lets : Bool) (s : Table) (v : TermsView) (p : ProblemView) : Type 0 where
  pub script : Script
  pub stands : StandsForProblem text replaces_lets script
  pub is : IsProblemOf s v p script
