-- Public. What contracts see of a claimer and of a seat at it: the numbers below a count, which its seats draw.
use Rattle.std.specs.Prelude.{◌≡◌, ℕ, ◌≤◌, Bool, if◌then◌else◌, nat_lt, List, Contains}
use Rattle.atomic_table.specs.Seated.{TableId}
use Rattle.step_claimer.specs.declared.drawer.Drawer.{Drawer}
use Rattle.step_claimer.specs.Drawers.{times, IsGiven}

-- the numbers below the count are drawn from a word of this table
pub record ClaimerView : Type 0 where
  pub count : ℕ
  pub table : TableId

-- A seat: the numbers that it drew, in order; its shares of the claimer, 65 where it is the only one; whether it has ended,
-- so that it draws no more; how many atomic steps it made; and a number below which it draws no more.
pub record SeatView : Type 0 where
  pub count : ℕ
  pub table : TableId
  pub shares : ℕ
  pub steps : ℕ
  pub past : ℕ
  pub ended : Bool
  pub numbers : List ℕ

-- the seat is one at this claimer
unfoldable pub IsSeatOf : ClaimerView → SeatView → Type 0
IsSeatOf claimer seat = (seat.table ≡ claimer.table) × (seat.count ≡ claimer.count)

abbrev pub drawer_of : SeatView → Drawer
drawer_of seat = record {
  count = seat.count;
  shares = seat.shares;
  steps = seat.steps;
  past = seat.past;
  ended = seat.ended;
  numbers = seat.numbers;
}

-- the numbers are those below n, each once
abbrev pub HasEachOnce : ℕ → List ℕ → Type 0
HasEachOnce n numbers = (x : ℕ) → times x numbers ≡ (if nat_lt x n then 1 else 0)

-- at some moment the seat was as it is, and every number below the count had been drawn, by it or by another seat
pub record SawAllDrawn (seat : SeatView) : Type 0 where
  pub next : ℕ
  pub seats : List Drawer
  pub given : IsGiven seat.count next seats
  pub among : Contains seats (drawer_of seat)
  pub all : seat.count ≤ next
