-- Private. Calls that place no cell.
use Rattle.pair_pool.specs.Views.{PassView, IsUnchanged}
use Rattle.term_pool.specs.Views.{KeepsPass}

-- the pass has kept what it had, and neither placed nor learnt anything
pub record ReadsOnly (old new : PassView) : Type 0 where
  pub keeps : KeepsPass old new
  pub unchanged : IsUnchanged old new
