-- Private. What every list of events leads to.
use Rattle.std.proofs.Common.{◌≡◌, ℕ, ◌+◌, ◌<◌, ◌≤◌, ◌⊎◌, inl, inr, true, false, nat_lt, List, [], ◌∷◌, ◌++◌, length, get_or, set}
use Rattle.std.proofs.Common.{length-set, Contains, sum_by, slice_get, Some, refl, ap, ◌∙◌, arith, get_or-set_other}
use Rattle.std.proofs.lemmas.Bool.{cases_lt}
use Rattle.std.proofs.lemmas.Bool.Decides.{nat_tests}
use Rattle.std.proofs.lemmas.List.Sums.{sum_by-set, sum_by-append}
use Rattle.std.proofs.lemmas.List.Elements.{All-contains}
use Rattle.std.proofs.lemmas.Option.{slice_get_within, get_or_from_slice_get}
use Rattle.step_claimer.specs.declared.drawer.Drawer.{Drawer}
use Rattle.step_claimer.specs.Claims.{HasEachOnce}
use Rattle.step_claimer.specs.Drawers.{IsGiven, drawn_once, times_in, open_shares, after_draw, after_look}
use Rattle.step_claimer.specs.Drawers.{left_half, right_half, both_of, spent_drawer}
use Rattle.step_claimer.specs.Events.{World, Event, draw, look, halve, unite, opening_world, IsAtWork, Happens, Lead, steps_made}
use Rattle.step_claimer.proofs.Giving.{opening_given, number_given, end_given, look_given, split_given, join_given, whole_seat}

abbrev AllGiven : ℕ → World → Type 0
AllGiven n w = IsGiven n w.next w.seats

module _ (n : ℕ) (w : World) (given : AllGiven n w) (i : ℕ) (v : Drawer) (at_work : IsAtWork w i v) where
  inside : i < length w.seats
  inside = slice_get_within w.seats i v at_work.is

  read : get_or w.seats i v ≡ v
  read = get_or_from_slice_get w.seats i v v at_work.is

  drew_given : v.ended ≡ false → IsGiven n (w.next + 1) (set w.seats i (after_draw w.next v))
  drew_given goes_on = go (cases_lt w.next n)
    where
      count : v.count ≡ n
      count = All-contains (λ (u : Drawer). u.count ≡ n) w.seats v given.counts (i, inside, read)

      go : (w.next < n) ⊎ (n ≤ w.next) → IsGiven n (w.next + 1) (set w.seats i (after_draw w.next v))
      go (inl low) =
          let test : nat_lt w.next v.count ≡ true = let same = count in grind (arith, nat_tests) in
          rw test (number_given n w.next i w.seats v given inside read at_work.some goes_on low)
      go (inr high) =
          let test : nat_lt w.next v.count ≡ false = let same = count in grind (arith, nat_tests) in
          rw test (end_given n w.next i w.seats v given inside read at_work.some goes_on high)

-- the next number and the seats of a world that comes by an event, put into one in which they are known
moved : (n : ℕ) (new : World) (next : ℕ) (seats : List Drawer) → new.next ≡ next → new.seats ≡ seats → IsGiven n next seats → AllGiven n new
moved n new next seats is_next are_seats given = rw (is_next, are_seats) given

event_given : (n : ℕ) (event : Event) (old new : World) → Happens event old new → AllGiven n old → AllGiven n new
event_given n (draw i) old new h given =
    moved n new (old.next + 1) (set old.seats i (after_draw old.next h.seat)) h.next h.seats
    (drew_given n old given i h.seat h.at_work h.goes_on)
event_given n (look i) old new h given =
    let there = inside n old given i h.seat h.at_work in
    let is = read n old given i h.seat h.at_work in
    moved n new old.next (set old.seats i (after_look h.seat)) h.next h.seats
    (look_given n old.next i old.seats h.seat given there is h.at_work.some)
event_given n (halve i) old new h given =
    let there = inside n old given i h.seat h.at_work in
    let is = read n old given i h.seat h.at_work in
    moved n new old.next (set old.seats i (left_half h.seat) ++ right_half h.seat ∷ []) h.next h.seats
    (split_given n old.next i old.seats h.seat given there is h.at_work.some h.shares)
event_given n (unite i j) old new h given =
    let there = inside n old given i h.seat h.at_work in
    let is = read n old given i h.seat h.at_work in
    let other_there = inside n old given j h.other h.other_at_work in
    let other_is = read n old given j h.other h.other_at_work in
    moved n new old.next (set (set old.seats i (both_of h.seat h.other)) j (spent_drawer h.seat.count)) h.next h.seats
    (join_given n old.next i j old.seats h.seat h.other given there is other_there other_is h.apart h.at_work.some)

lead_given : (n : ℕ) (events : List Event) (old new : World) → Lead events old new → AllGiven n old → AllGiven n new
lead_given n [] old new is given = rw is given
lead_given n (event ∷ events) old new (middle, h, rest) given =
    lead_given n events middle new rest (event_given n event old middle h given)

module _ (n : ℕ) (events : List Event) (world : World) (lead : Lead events (opening_world n) world) where
  led : AllGiven n world
  led = lead_given n events (opening_world n) world lead (opening_given n)

  pub led_once : (x : ℕ) → sum_by (times_in x) world.seats ≡ drawn_once x n world.next
  led_once = led.drawn

  pub led_near : world.next ≤ n + 65
  led_near = go led.room
    where
      go : (world.next ≤ n) ⊎ (world.next + sum_by open_shares world.seats ≤ n + 65) → world.next ≤ n + 65
      go (inl low) = omega arith
      go (inr near) = omega arith

  pub led_whole :
      (i : ℕ) (seat : Drawer) → slice_get world.seats i ≡ Some seat → seat.ended ≡ true → seat.shares ≡ 65 →
      HasEachOnce n seat.numbers
  led_whole i seat there over whole =
      let among : Contains world.seats seat = (i, slice_get_within world.seats i seat there, get_or_from_slice_get world.seats i seat seat there) in
      whole_seat n world.next world.seats seat led among whole over

-- ---- steps

set_steps :
    (old : List Drawer) (i : ℕ) (own after : Drawer) → slice_get old i ≡ Some own → (k : ℕ) → after.steps ≡ own.steps + k →
    sum_by (λ (v : Drawer). v.steps) (set old i after) ≡ sum_by (λ (v : Drawer). v.steps) old + k
set_steps old i own after here k more =
    let sums = sum_by-set (λ (v : Drawer). v.steps) old i after own (slice_get_within old i own here) in
    let is : (get_or old i own).steps ≡ own.steps = ap (λ (v : Drawer). v.steps) (get_or_from_slice_get old i own own here) in omega arith

draw_steps : (x : ℕ) (v : Drawer) → (after_draw x v).steps ≡ v.steps + 1
draw_steps x v = go (cases_lt x v.count)
  where
    go : (x < v.count) ⊎ (v.count ≤ x) → (after_draw x v).steps ≡ v.steps + 1
    go (inl low) = let test : nat_lt x v.count ≡ true = grind (arith, nat_tests) in rw test refl
    go (inr high) = let test : nat_lt x v.count ≡ false = grind (arith, nat_tests) in rw test refl

event_steps : (event : Event) (old new : World) → Happens event old new → steps_made new ≡ steps_made old + 1
event_steps (draw i) old new h =
    rw h.seats (set_steps old.seats i h.seat (after_draw old.next h.seat) h.at_work.is 1 (draw_steps old.next h.seat))
event_steps (look i) old new h = rw h.seats (set_steps old.seats i h.seat (after_look h.seat) h.at_work.is 1 refl)
event_steps (halve i) old new h =
    let one = sum_by-append (λ (v : Drawer). v.steps) (set old.seats i (left_half h.seat)) (right_half h.seat ∷ []) in
    let two = set_steps old.seats i h.seat (left_half h.seat) h.at_work.is 1 refl in rw h.seats (omega arith)
event_steps (unite i j) old new h =
    let both = both_of h.seat h.other in
    let gone = spent_drawer h.seat.count in
    let middle = set old.seats i both in
    let inside_other = slice_get_within old.seats j h.other h.other_at_work.is in
    let one = set_steps old.seats i h.seat both h.at_work.is (h.other.steps + 1) (omega arith) in
    let sums = sum_by-set (λ (v : Drawer). v.steps) middle j gone h.other (rw (length-set old.seats i both) inside_other) in
    let is : (get_or middle j h.other).steps ≡ h.other.steps =
    ap (λ (v : Drawer). v.steps)
    (get_or-set_other old.seats i j both h.other h.apart ∙ get_or_from_slice_get old.seats j h.other h.other h.other_at_work.is) in
    rw h.seats (omega arith)

pub lead_steps : (events : List Event) (old new : World) → Lead events old new → steps_made new ≡ steps_made old + length events
lead_steps [] old new is = rw is (omega arith)
lead_steps (event ∷ events) old new (middle, h, rest) =
    let one = event_steps event old middle h in
    let more = lead_steps events middle new rest in omega arith
