-- Private. The claimer's word under atomic steps: its rule, and what each kind of step tells.
use Rattle.std.specs.Prelude.{◌≡◌, ℕ, ◌+◌, ◌^◌, ◌<◌, ◌≤◌, List, [], length, slice_index, Contains}
use Rattle.atomic_table.specs.Table as Atomic
use Rattle.atomic_table.specs.declared.shared.Seat.{Seat}
use Rattle.step_claimer.specs.declared.drawer.Drawer.{Drawer}
use Rattle.step_claimer.specs.Claims.{SeatView}
use Rattle.step_claimer.specs.Drawers.{IsGiven, after_draw, after_look}

abbrev pub Me : Type 0
Me = Atomic.Me (Unit {0}) Drawer

abbrev pub Step : Type 0
Step = Atomic.Step (Unit {0})

-- the rule: there is one word, the next number
pub record IsRuled (n : ℕ) (s : Atomic.State (Unit {0}) Drawer) : Type 0 where
  pub one : length s.words ≡ 1
  pub small : n ≤ 2 ^ 32
  pub given : IsGiven n (slice_index s.words 0) s.views

-- a seat among those that have drawn up to the next number
pub record IsAmong (next : ℕ) (v : Drawer) : Type 0 where
  pub seats : List Drawer
  pub given : IsGiven v.count next seats
  pub among : Contains seats v

-- what contracts see of a seat
abbrev pub seat_view : Seat (Unit {0}) Drawer → SeatView
seat_view seat = record {
  count = seat.me.0.count;
  table = seat.table_id;
  shares = seat.me.0.shares;
  steps = seat.me.0.steps;
  past = seat.me.0.past;
  ended = seat.me.0.ended;
  numbers = seat.me.0.numbers;
}

-- what holds of a seat between its steps: it is among such seats, has at least one share, and no slot is out with it
pub record IsLive (seat : Seat (Unit {0}) Drawer) : Type 0 where
  pub next : ℕ
  pub good : IsAmong next seat.me.0
  pub some : 0 < seat.me.0.shares
  pub slots : seat.me.1 ≡ []

-- what a draw tells that found this number
pub record Draws (old : Me) (found : ℕ) (new : Me) : Type 0 where
  pub slots : new.1 ≡ old.1
  pub view : new.0 ≡ after_draw found old.0
  pub further : old.0.past ≤ found
  pub good : IsAmong (found + 1) new.0

abbrev pub draws : Step → Me → ℕ → Me → Type 0
draws st old found new = Draws old found new

-- what a look at the word tells
pub record Looked (old : Me) (found : ℕ) (new : Me) : Type 0 where
  pub slots : new.1 ≡ old.1
  pub view : new.0 ≡ after_look old.0
  pub good : IsAmong found new.0

abbrev pub looked : Step → Me → ℕ → Me → Type 0
looked st old found new = Looked old found new
