-- Public. What a seat at the claimer's word knows; what a step makes of it; and what is true of all seats between any two
-- steps. Each step counts.
use Rattle.std.specs.Prelude.{◌≡◌, ℕ, ◌+◌, ◌-◌, ◌<◌, ◌≤◌, ◌⊎◌, true, false, if◌then◌else◌, nat_eq, nat_lt}
use Rattle.std.specs.Prelude.{List, [], ◌∷◌, ◌++◌, All, sum_by}
use Rattle.step_claimer.specs.declared.drawer.Drawer.{Drawer}

-- how often x was drawn, where the numbers below `next` were drawn and x counts if it is below n
abbrev pub drawn_once : ℕ → ℕ → ℕ → ℕ
drawn_once x n next = if nat_lt x n then (if nat_lt x next then 1 else 0) else 0

-- how often x is among the numbers, and how often a seat drew it
abbrev pub times : ℕ → List ℕ → ℕ
times x numbers = sum_by (λ y. if nat_eq y x then 1 else 0) numbers

abbrev pub times_in : ℕ → Drawer → ℕ
times_in x v = times x v.numbers

-- the shares of a seat that may still draw
abbrev pub open_shares : Drawer → ℕ
open_shares v = if v.ended then 0 else v.shares

-- The numbers below n and below the next one were drawn, each once, by these seats. Each seat that draws too late ends, so
-- the next number stays near n. What a seat draws next is no number below its `past`: that is not beyond the next number. A seat
-- that has ended has seen the numbers run out, and one without shares is spent.
pub record IsGiven (n next : ℕ) (seats : List Drawer) : Type 0 where
  pub counts : All (λ (v : Drawer). v.count ≡ n) seats
  pub total : sum_by (λ (v : Drawer). v.shares) seats ≡ 65
  pub drawn : (x : ℕ) → sum_by (times_in x) seats ≡ drawn_once x n next
  pub past : All (λ (v : Drawer). v.past ≤ next) seats
  pub room : (next ≤ n) ⊎ (next + sum_by open_shares seats ≤ n + 65)
  pub ended : All (λ (v : Drawer). v.ended ≡ true → n < next) seats
  pub spent : All (λ (v : Drawer). v.shares ≡ 0 → v.numbers ≡ []) seats

-- the first seat of a claimer of n numbers
abbrev pub first_drawer : ℕ → Drawer
first_drawer n = record { count = n; shares = 65; steps = 0; past = 0; ended = false; numbers = [] }

-- a seat that drew a number; that drew too late; that made a step and drew nothing
abbrev pub with_number : ℕ → Drawer → Drawer
with_number x v =
    record { count = v.count; shares = v.shares; steps = v.steps + 1; past = x + 1; ended = v.ended; numbers = v.numbers ++ x ∷ [] }

abbrev pub at_end : Drawer → Drawer
at_end v = record { count = v.count; shares = v.shares; steps = v.steps + 1; past = v.past; ended = true; numbers = v.numbers }

abbrev pub after_look : Drawer → Drawer
after_look v = record { count = v.count; shares = v.shares; steps = v.steps + 1; past = v.past; ended = v.ended; numbers = v.numbers }

-- a seat that found the next number to be x
abbrev pub after_draw : ℕ → Drawer → Drawer
after_draw x v = if nat_lt x v.count then with_number x v else at_end v

-- the two halves of a seat that is split
abbrev pub left_half : Drawer → Drawer
left_half v = record { count = v.count; shares = v.shares - 1; steps = v.steps + 1; past = v.past; ended = v.ended; numbers = v.numbers }

abbrev pub right_half : Drawer → Drawer
right_half v = record { count = v.count; shares = 1; steps = 0; past = 0; ended = v.ended; numbers = [] }

-- two seats made one, which has ended where either had, and what is left of the other
abbrev pub both_of : Drawer → Drawer → Drawer
both_of v w = record {
  count = v.count;
  shares = v.shares + w.shares;
  steps = v.steps + w.steps + 1;
  past = v.past;
  ended = if v.ended then true else w.ended;
  numbers = v.numbers ++ w.numbers;
}

abbrev pub spent_drawer : ℕ → Drawer
spent_drawer n = record { count = n; shares = 0; steps = 0; past = 0; ended = false; numbers = [] }
