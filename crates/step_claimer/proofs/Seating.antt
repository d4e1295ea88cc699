-- Private. The steps on the claimer's word keep its rule, and a seat stays one among others.
use Rattle.std.proofs.Common.{◌≡◌, ℕ, ◌+◌, ◌%◌, ◌^◌, ◌<◌, ◌≤◌, ◌⊎◌, inl, inr, true, false, nat_lt, List, [], ◌∷◌, ◌++◌, length}
use Rattle.std.proofs.Common.{get_or, set, length-set, sum_by, subst, refl, ap, sym, ◌∙◌, arith, get_or-set_same, get_or-set_other}
use mathlib.Core.Option.{none, some}
use lib.ListN.{get_elem?}
use Rattle.std.proofs.lemmas.Bool.{cases_lt}
use Rattle.std.proofs.lemmas.Bool.Decides.{nat_tests}
use Rattle.std.proofs.lemmas.List.Elements.{Contains-append_left, Contains-append_right, Contains-push}
use Rattle.atomic_table.specs.Table as Atomic
use Rattle.atomic_table.specs.declared.shared.Seat.{Seat}
use Rattle.step_claimer.specs.declared.drawer.Drawer.{Drawer}
use Rattle.step_claimer.specs.Claims.{HasEachOnce}
use Rattle.step_claimer.specs.Drawers.{IsGiven, first_drawer, with_number, at_end, after_draw, after_look, left_half, right_half}
use Rattle.step_claimer.specs.Drawers.{both_of, open_shares, spent_drawer}
use Rattle.step_claimer.specs.Rule.{Me, IsRuled, IsAmong, IsLive, Draws, draws, looked}
use Rattle.step_claimer.proofs.Lists.{at_inside, at_read, set_contains}
use Rattle.step_claimer.proofs.Giving.{opening_given, own_past, number_given, end_given, look_given, split_given, join_given, whole_seat}

pub opening_ruled : (n : ℕ) → n ≤ 2 ^ 32 → IsRuled n (Atomic.opening {S = Unit {0}} (0 ∷ []) [] (first_drawer n))
opening_ruled n small = record { one = refl; small = small; given = opening_given n }

pub opening_live : (n : ℕ) (seat : Seat (Unit {0}) Drawer) → seat.me ≡ (first_drawer n, []) → IsLive seat
opening_live n seat e = record {
  next = 0;
  good = rw e (record { seats = first_drawer n ∷ []; given = opening_given n; among = (0, omega arith, refl) });
  some = rw e (omega arith);
  slots = rw e refl;
}

-- ---- a draw, and a look

module _ (n slots id : ℕ) (me : Me) (share : 0 < me.0.shares) (count : me.0.count ≡ n) where
  module _ (s : Atomic.State (Unit {0}) Drawer) (ruled : IsRuled n s) (at : get_elem? s.views id ≡ some me.0) where
    abbrev x : ℕ
    x = get_or s.words 0 0

    inside : id < length s.views
    inside = at_inside s.views id me.0 at

    read : get_or s.views id me.0 ≡ me.0
    read = at_read s.views id me.0 me.0 at

    small : x < 2 ^ 32 + 66
    small = go ruled.given.room
      where
        go : (x ≤ n) ⊎ (x + sum_by open_shares s.views ≤ n + 65) → x < 2 ^ 32 + 66
        go (inl low) = let m : n ≤ 2 ^ 32 = ruled.small in omega arith
        go (inr near) = let m : n ≤ 2 ^ 32 = ruled.small in omega arith

    -- the word becomes the number m, and the seat w
    steps_to :
        (m : ℕ) (w : Drawer) → w.count ≡ me.0.count → IsGiven n m (set s.views id w) →
        IsRuled n (Atomic.stepped s 0 m id me.1 w Atomic.keeps) × IsAmong m w
    steps_to m w same given = (
      record {
        one = length-set s.words 0 m ∙ ruled.one;
        small = ruled.small;
        given = let one : length s.words ≡ 1 = ruled.one in rw (get_or-set_same s.words 0 m 0 (omega arith)) given;
      },
      record {
        seats = set s.views id w;
        given = subst (λ k. IsGiven k m (set s.views id w)) (sym (same ∙ count)) given;
        among = set_contains s.views id w inside;
      },
    )

    draws_to :
        me.0.ended ≡ false → (x < n) ⊎ (n ≤ x) →
        IsRuled n (Atomic.stepped s 0 (x + 1) id me.1 (after_draw x me.0) Atomic.keeps) × IsAmong (x + 1) (after_draw x me.0)
    draws_to goes_on (inl low) =
        let test : nat_lt x me.0.count ≡ true = grind (arith, nat_tests) in
        rw test (steps_to (x + 1) (with_number x me.0) refl (number_given n x id s.views me.0 ruled.given inside read share goes_on low))
    draws_to goes_on (inr high) =
        let test : nat_lt x me.0.count ≡ false = grind (arith, nat_tests) in
        rw test (steps_to (x + 1) (at_end me.0) refl (end_given n x id s.views me.0 ruled.given inside read share goes_on high))

  pub draws_next :
      me.0.ended ≡ false →
      Atomic.Allows (IsRuled n) slots id me 0 (λ x. (x + 1) % 2 ^ 64) (draws (Atomic.step slots 0 1 0 none) me)
  draws_next goes_on s ruled _ at _ =
      let x = get_or s.words 0 0 in
      let below = small s ruled at in
      let next : (x + 1) % 2 ^ 64 ≡ x + 1 = omega (arith, below) in
      let made = draws_to s ruled at goes_on (cases_lt x n) in
      let low = own_past n x id s.views me.0 ruled.given (inside s ruled at) (read s ruled at) share in
      (after_draw x me.0, Atomic.keeps, tt, rw next made.0, record { slots = refl; view = refl; further = low; good = made.1 })

  pub looks_at : Atomic.Allows (IsRuled n) slots id me 0 (λ x. x) (looked (Atomic.step slots 0 0 0 none) me)
  looks_at s ruled _ at _ =
      let x = get_or s.words 0 0 in
      let given = look_given n x id s.views me.0 ruled.given (inside s ruled at) (read s ruled at) share in
      let made = steps_to s ruled at x (after_look me.0) refl given in
      (after_look me.0, Atomic.keeps, tt, made.0, record { slots = refl; view = refl; good = made.1 })

drawn_shares : (x : ℕ) (v : Drawer) → (after_draw x v).shares ≡ v.shares
drawn_shares x v = go (cases_lt x v.count)
  where
    go : (x < v.count) ⊎ (v.count ≤ x) → (after_draw x v).shares ≡ v.shares
    go (inl low) = let test : nat_lt x v.count ≡ true = grind (arith, nat_tests) in rw test refl
    go (inr high) = let test : nat_lt x v.count ≡ false = grind (arith, nat_tests) in rw test refl

-- a seat that drew is one among others
pub draws_live :
    (seat new : Seat (Unit {0}) Drawer) (found : ℕ) → IsLive seat → Draws seat.me found new.me → IsLive new
draws_live seat new found live h = record {
  next = found + 1;
  good = h.good;
  some =
      let same = ap (λ (v : Drawer). v.shares) h.view ∙ drawn_shares found seat.me.0 in
      let share : 0 < seat.me.0.shares = live.some in omega arith;
  slots = h.slots ∙ live.slots;
}

-- ---- a split

pub splits :
    (n id : ℕ) (v : Drawer) → 1 < v.shares → Atomic.Splits (IsRuled n) id v (left_half v) (right_half v)
splits n id v more s ruled at = record {
  one = ruled.one;
  small = ruled.small;
  given =
      split_given n (get_or s.words 0 0) id s.views v ruled.given (at_inside s.views id v at) (at_read s.views id v v at) (omega arith) more;
}

module _ (seat : Seat (Unit {0}) Drawer) (live : IsLive seat) (more : 1 < seat.me.0.shares) where
  abbrev was : IsAmong live.next seat.me.0
  was = live.good

  abbrev one_half : Drawer
  one_half = left_half seat.me.0

  abbrev other_half : Drawer
  other_half = right_half seat.me.0

  abbrev halves : List Drawer
  halves = set was.seats was.among.0 one_half ++ other_half ∷ []

  halves_given : IsGiven seat.me.0.count live.next halves
  halves_given =
      split_given seat.me.0.count live.next was.among.0 was.seats seat.me.0 was.given was.among.1 was.among.2 (omega arith) more

  one_among : IsAmong live.next one_half
  one_among = record {
    seats = halves;
    given = halves_given;
    among =
        Contains-append_left (set was.seats was.among.0 one_half) (other_half ∷ []) one_half
        (set_contains was.seats was.among.0 one_half was.among.1);
  }

  other_among : IsAmong live.next other_half
  other_among = record {
    seats = halves;
    given = halves_given;
    among = Contains-append_right (set was.seats was.among.0 one_half) (other_half ∷ []) other_half (Contains-push [] other_half);
  }

  pub splits_live :
      (one other : Seat (Unit {0}) Drawer) → one.me ≡ (left_half seat.me.0, seat.me.1) → other.me ≡ (right_half seat.me.0, []) →
      IsLive one × IsLive other
  splits_live one other is1 is2 = (
    record { next = live.next; good = rw is1 one_among; some = rw is1 (omega arith); slots = rw is1 live.slots },
    record { next = live.next; good = rw is2 other_among; some = rw is2 (omega arith); slots = rw is2 refl },
  )

-- ---- a join

pub joins :
    (n id jd extent : ℕ) (v w : Drawer) → 0 < v.shares → v.count ≡ extent →
    Atomic.Joins (IsRuled n) id v jd w (both_of v w) (spent_drawer extent)
joins n id jd extent v w share wide s ruled at apart at2 =
    let middle = set s.views id (both_of v w) in
    let inside_other : jd < length s.views = rw (length-set s.views id (both_of v w)) at (at_inside middle jd w at2) in
    let read_other = sym (get_or-set_other s.views id jd (both_of v w) w apart) ∙ at_read middle jd w w at2 in
    rw (← wide) (record {
      one = ruled.one;
      small = ruled.small;
      given =
          join_given n (get_or s.words 0 0) id jd s.views v w ruled.given (at_inside s.views id v at) (at_read s.views id v v at)
          inside_other read_other apart share;
    })

-- ---- a seat with all shares

pub live_whole :
    (seat : Seat (Unit {0}) Drawer) → IsLive seat → seat.me.0.shares ≡ 65 → seat.me.0.ended ≡ true →
    HasEachOnce seat.me.0.count seat.me.0.numbers
live_whole seat live whole over =
    whole_seat seat.me.0.count live.next live.good.seats seat.me.0 live.good.given live.good.among whole over
