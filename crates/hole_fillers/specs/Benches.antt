-- Public. What contracts see of the fillers on a bench.
use Rattle.std.specs.Prelude.{◌≡◌, ◌-◌, ◌==◌, ℕ, not, List, length, map, filter, slice_get, slice_set, Option, IfSome}
use Rattle.std.specs.Option.{option_map_or}
use Rattle.fillers.specs.Books.{Exchange, with_exchange}

-- a filler: how many questions it may still be asked, and its book
pub record Seat : Type 0 where
  pub budget : ℕ
  pub book : List Exchange

-- fillers in their order, by what their budgets and their books are
abbrev pub seats : {Filler : Type 0} → (Filler → ℕ) → (Filler → List Exchange) → List Filler → List Seat
seats budget book fillers = map (λ f. record { budget = budget f; book = book f }) fillers

-- the budget of the filler of a place, and 0 where there is none
abbrev pub budget_at : List Seat → ℕ → ℕ
budget_at seats i = option_map_or (λ s. s.budget) (slice_get seats i) 0

-- those that may be asked
abbrev pub with_budget : List Seat → List Seat
with_budget seats = filter (λ s. not (s.budget == 0)) seats

-- how many may not
abbrev pub spent : List Seat → ℕ
spent seats = length (filter (λ s. s.budget == 0) seats)

-- the filler with one question less, and with this exchange at the end of its book
abbrev pub asked_seat : Seat → List ℕ → Option (List ℕ) → Seat
asked_seat s question reply = record { budget = s.budget - 1; book = with_exchange s.book question reply }

-- The filler of a place was asked this question, and no other one.
abbrev pub IsAsked : List Seat → List Seat → ℕ → List ℕ → Option (List ℕ) → Type 0
IsAsked old new i question reply = IfSome (slice_get old i) (λ s. new ≡ slice_set old i (asked_seat s question reply))
