-- Private. What a pass holds, as contracts see it: the words of a pool of its own, or a seat at the table of a shared one.
-- And what a call for a cell does to it, in the one case and in the other.
use Rattle.std.specs.Prelude.{◌≡◌, ℕ, None}
use Rattle.pair_pool.specs.declared.hold.Hold.{Hold}
use Rattle.pair_pool.specs.declared.hold.Hold.TheVariants.{Words, Seat}
use Rattle.pair_pool.specs.Views.{PassView, Holding, IsSeen, HasCell, AddsAtMost, SeesMore, IsFullFor}
use Rattle.pair_pool.specs.GoodStates.{IsGood}
use Rattle.pair_pool.specs.OnlyPass.{only_pass, only_state}
use Rattle.pair_pool.specs.Sharing.{holding_of, IsLive}

abbrev pub held : Hold → Holding
held (Words words) = record { view = only_pass words.items; steps = 0; table = None }
held (Seat seat) = holding_of seat

abbrev pub IsHeld : Hold → Type 0
IsHeld (Words words) = IsGood (only_state words.items)
IsHeld (Seat seat) = IsLive seat

-- the pass has found the cell (a, b) with the reference r, or placed it
pub record HasFound (old new : PassView) (a b r : ℕ) : Type 0 where
  pub places : new.places ≡ old.places
  pub shares : new.shares ≡ old.shares
  pub sees : SeesMore old new
  pub cell : HasCell new r a b
  pub known : AddsAtMost old.known new.known r a b
  pub placed : AddsAtMost old.placed new.placed r a b
  pub was_there : (q : ℕ) → IsSeen old q a b → new.placed ≡ old.placed

-- each place has another cell, which the pass has seen
pub record HasNoRoom (old new : PassView) (a b : ℕ) : Type 0 where
  pub places : new.places ≡ old.places
  pub shares : new.shares ≡ old.shares
  pub sees : SeesMore old new
  pub known : new.known ≡ old.known
  pub placed : new.placed ≡ old.placed
  pub full : IsFullFor new a b
