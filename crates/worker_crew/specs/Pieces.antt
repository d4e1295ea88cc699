-- Public. What workers may know, and what the pieces of a job say.
use Rattle.std.specs.Prelude.{◌≡◌, ◌<◌, ℕ, List, length, slice_index_or}
use Rattle.pair_pool.specs.Views.{Grows}
use Rattle.term_pool.specs.Views.{TermsView}

-- on the same pool at least as much is known
pub record Extends (old new : TermsView) : Type 0 where
  pub pool : new.pool ≡ old.pool
  pub grows : Grows old.pass new.pass

-- there is one piece for each chunk, in the order of the chunks
pub record AreAllDone {P : Type 0} (says : ℕ → P → Type 0) (count : ℕ) (pieces : List P) : Type 0 where
  pub one_each : length pieces ≡ count
  pub say : (k : ℕ) (d : P) → k < count → says k (slice_index_or pieces k d)
