-- Private. What holds of the tables with which two texts are judged, before and after.
use Rattle.std.specs.Prelude.{◌≡◌, ◌^◌, ℕ, []}
use Rattle.pair_pool.specs.Views.{IsForOne, IsPassOf}
use Rattle.term_reader.specs.ProblemViews.{IsNewTable}
use Rattle.judged_texts.specs.declared.tables.Tables.{Tables}

-- the pass has the pool, of 2^bits places, for itself
pub record HasForItself (tables : Tables) (bits : ℕ) : Type 0 where
  pub of_pool : IsPassOf tables.pool tables.pass
  pub alone : IsForOne tables.pool
  pub size : tables.pool.bits ≡ bits

-- nothing stands in them, and the pass holds all shares
pub record AreEmpty (tables : Tables) : Type 0 where
  pub for_itself : HasForItself tables tables.pool.bits
  pub symbols : IsNewTable tables.symbols
  pub nothing : tables.pass.view.placed ≡ []
  pub shares : tables.pass.view.shares ≡ 65
  pub places : tables.pass.view.places ≡ 2 ^ tables.pool.bits
