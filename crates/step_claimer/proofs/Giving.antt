-- Private. Each step of a seat keeps what is true of all seats.
use Rattle.std.proofs.Common.{◌≡◌, ℕ, ◌+◌, ◌-◌, ◌<◌, ◌≤◌, ◌⊎◌, inl, inr, Bool, true, false, nat_lt, nat_eq, List, [], ◌∷◌, ◌++◌}
use Rattle.std.proofs.Common.{length, get_or, set, length-set, All, Contains, sum_by, refl, ap, sym, ◌∙◌, arith, get_or-set_other}
use Rattle.std.specs.Bool.{if◌then◌else◌}
use Rattle.std.proofs.lemmas.Bool.Decides.{nat_tests}
use Rattle.std.proofs.lemmas.List.Sums.{sum_by-set, sum_by-append, sum_by-cons}
use Rattle.std.proofs.lemmas.List.Elements.{All-nil, All-cons, All-head, All-tail, All-append, All-set, All-weaker, All-contains}
use Rattle.step_claimer.specs.declared.drawer.Drawer.{Drawer}
use Rattle.step_claimer.specs.Claims.{HasEachOnce}
use Rattle.step_claimer.specs.Drawers.{IsGiven, drawn_once, times_in, open_shares, first_drawer, with_number, at_end, after_look}
use Rattle.step_claimer.specs.Drawers.{left_half, right_half, both_of, spent_drawer}

abbrev shares_of : Drawer → ℕ
shares_of v = v.shares

differ : false ≡ true → ⊥
differ e = absurd cc

open_at_most : (seats : List Drawer) → sum_by open_shares seats ≤ sum_by shares_of seats
open_at_most [] = omega arith
open_at_most (v ∷ vs) =
    rw (sum_by-cons open_shares v vs, sum_by-cons shares_of v vs) (go v.ended (open_at_most vs))
  where
    go :
        (b : Bool) → sum_by open_shares vs ≤ sum_by shares_of vs →
        (if b then 0 else v.shares) + sum_by open_shares vs ≤ v.shares + sum_by shares_of vs
    go true h = omega arith
    go false h = omega arith

once_more : (y n x : ℕ) → x < n → drawn_once y n (x + 1) ≡ drawn_once y n x + (if nat_eq x y then 1 else 0)
once_more y n x low = grind (arith, nat_tests)

once_same : (y n x : ℕ) → n ≤ x → drawn_once y n (x + 1) ≡ drawn_once y n x
once_same y n x high = grind (arith, nat_tests)

never_yet : (x n : ℕ) → 0 ≡ drawn_once x n 0
never_yet x n = grind (arith, nat_tests)

pub opening_given : (n : ℕ) → IsGiven n 0 (first_drawer n ∷ [])
opening_given n = record {
  counts = All-cons (λ (v : Drawer). v.count ≡ n) (first_drawer n) [] refl (All-nil (λ (v : Drawer). v.count ≡ n));
  total = refl;
  drawn = λ x. never_yet x n;
  past =
      All-cons (λ (v : Drawer). v.past ≤ 0) (first_drawer n) [] (omega arith) (All-nil (λ (v : Drawer). v.past ≤ 0));
  room = inl (omega arith);
  ended =
      All-cons (λ (v : Drawer). v.ended ≡ true → n < 0) (first_drawer n) [] (λ e. absurd (differ e))
      (All-nil (λ (v : Drawer). v.ended ≡ true → n < 0));
  spent =
      All-cons (λ (v : Drawer). v.shares ≡ 0 → v.numbers ≡ []) (first_drawer n) [] (λ _. refl)
      (All-nil (λ (v : Drawer). v.shares ≡ 0 → v.numbers ≡ []));
}

-- ---- one seat draws, or looks

module _ (n x id : ℕ) (seats : List Drawer) (v : Drawer) (given : IsGiven n x seats) (inside : id < length seats)
    (read : get_or seats id v ≡ v) (share : 0 < v.shares) where
  total_after : (w : Drawer) → w.shares ≡ v.shares → sum_by shares_of (set seats id w) ≡ 65
  total_after w same =
      let s = sum_by-set shares_of seats id w v inside in
      let r : (get_or seats id v).shares ≡ v.shares = ap shares_of read in
      let t : sum_by shares_of seats ≡ 65 = given.total in omega arith

  count : v.count ≡ n
  count = All-contains (λ (w : Drawer). w.count ≡ n) seats v given.counts (id, inside, read)

  later : All (λ (w : Drawer). w.ended ≡ true → n < x + 1) seats
  later =
      All-weaker (λ (w : Drawer). w.ended ≡ true → n < x) (λ (w : Drawer). w.ended ≡ true → n < x + 1)
      (λ w f e. let h : n < x = f e in omega arith) seats given.ended

  pub own_past : v.past ≤ x
  own_past = All-contains (λ (w : Drawer). w.past ≤ x) seats v given.past (id, inside, read)

  further : All (λ (w : Drawer). w.past ≤ x + 1) seats
  further =
      All-weaker (λ (w : Drawer). w.past ≤ x) (λ (w : Drawer). w.past ≤ x + 1) (λ w h. omega arith) seats given.past

  pub number_given : v.ended ≡ false → x < n → IsGiven n (x + 1) (set seats id (with_number x v))
  number_given goes_on low = record {
    counts = All-set (λ (w : Drawer). w.count ≡ n) seats id (with_number x v) count given.counts;
    total = total_after (with_number x v) refl;
    drawn = λ y.
        let s = sum_by-set (times_in y) seats id (with_number x v) v inside in
        let r : times_in y (get_or seats id v) ≡ times_in y v = ap (times_in y) read in
        let a = sum_by-append (λ z. if nat_eq z y then 1 else 0) v.numbers (x ∷ []) in
        let t : sum_by (times_in y) seats ≡ drawn_once y n x = given.drawn y in
        let o = once_more y n x low in omega arith;
    past = All-set (λ (w : Drawer). w.past ≤ x + 1) seats id (with_number x v) (omega arith) further;
    room = inl (omega arith);
    ended =
        All-set (λ (w : Drawer). w.ended ≡ true → n < x + 1) seats id (with_number x v)
        (λ e. absurd (differ (sym goes_on ∙ e))) later;
    spent =
        All-set (λ (w : Drawer). w.shares ≡ 0 → w.numbers ≡ []) seats id (with_number x v) (λ none. absurd (omega arith)) given.spent;
  }

  spare :
      (x ≤ n) ⊎ (x + sum_by open_shares seats ≤ n + 65) → open_shares v ≡ v.shares →
      x + 1 + sum_by open_shares (set seats id (at_end v)) ≤ n + 65
  spare room open' =
      let s = sum_by-set open_shares seats id (at_end v) v inside in
      let r : open_shares (get_or seats id v) ≡ open_shares v = ap open_shares read in
      let most = open_at_most seats in
      let t : sum_by shares_of seats ≡ 65 = given.total in go room s r most t
    where
      go :
          (x ≤ n) ⊎ (x + sum_by open_shares seats ≤ n + 65) →
          sum_by open_shares (set seats id (at_end v)) + open_shares (get_or seats id v) ≡ sum_by open_shares seats + 0 →
          open_shares (get_or seats id v) ≡ open_shares v → sum_by open_shares seats ≤ sum_by shares_of seats →
          sum_by shares_of seats ≡ 65 → x + 1 + sum_by open_shares (set seats id (at_end v)) ≤ n + 65
      go (inl low) s r most t = omega arith
      go (inr near) s r most t = omega arith

  pub end_given : v.ended ≡ false → n ≤ x → IsGiven n (x + 1) (set seats id (at_end v))
  end_given goes_on high = record {
    counts = All-set (λ (w : Drawer). w.count ≡ n) seats id (at_end v) count given.counts;
    total = total_after (at_end v) refl;
    drawn = λ y.
        let s = sum_by-set (times_in y) seats id (at_end v) v inside in
        let r : times_in y (get_or seats id v) ≡ times_in y v = ap (times_in y) read in
        let t : sum_by (times_in y) seats ≡ drawn_once y n x = given.drawn y in
        let o = once_same y n x high in omega arith;
    past = All-set (λ (w : Drawer). w.past ≤ x + 1) seats id (at_end v) (let low = own_past in omega arith) further;
    room = inr (spare given.room (ap (λ b. if b then 0 else v.shares) goes_on));
    ended = All-set (λ (w : Drawer). w.ended ≡ true → n < x + 1) seats id (at_end v) (λ _. omega arith) later;
    spent = All-set (λ (w : Drawer). w.shares ≡ 0 → w.numbers ≡ []) seats id (at_end v) (λ none. absurd (omega arith)) given.spent;
  }

  own_end : v.ended ≡ true → n < x
  own_end = All-contains (λ (w : Drawer). w.ended ≡ true → n < x) seats v given.ended (id, inside, read)

  pub look_given : IsGiven n x (set seats id (after_look v))
  look_given = record {
    counts = All-set (λ (w : Drawer). w.count ≡ n) seats id (after_look v) count given.counts;
    total = total_after (after_look v) refl;
    drawn = λ y.
        let s = sum_by-set (times_in y) seats id (after_look v) v inside in
        let r : times_in y (get_or seats id v) ≡ times_in y v = ap (times_in y) read in
        let t : sum_by (times_in y) seats ≡ drawn_once y n x = given.drawn y in omega arith;
    past = All-set (λ (w : Drawer). w.past ≤ x) seats id (after_look v) own_past given.past;
    room = stays given.room;
    ended = All-set (λ (w : Drawer). w.ended ≡ true → n < x) seats id (after_look v) own_end given.ended;
    spent =
        All-set (λ (w : Drawer). w.shares ≡ 0 → w.numbers ≡ []) seats id (after_look v) (λ none. absurd (omega arith)) given.spent;
  }
    where
      stays : (x ≤ n) ⊎ (x + sum_by open_shares seats ≤ n + 65) → (x ≤ n) ⊎ (x + sum_by open_shares (set seats id (after_look v)) ≤ n + 65)
      stays (inl low) = inl low
      stays (inr near) =
          let s = sum_by-set open_shares seats id (after_look v) v inside in
          let r : open_shares (get_or seats id v) ≡ open_shares v = ap open_shares read in inr (omega arith)

  -- ---- a seat is split

  abbrev l : Drawer
  l = left_half v

  abbrev r : Drawer
  r = right_half v

  split_open : 1 < v.shares → open_shares l + open_shares r ≡ open_shares v
  split_open more = go v.ended
    where
      go : (b : Bool) → (if b then 0 else (v.shares - 1)) + (if b then 0 else 1) ≡ (if b then 0 else v.shares)
      go true = refl
      go false = omega arith

  pub split_given : 1 < v.shares → IsGiven n x (set seats id l ++ r ∷ [])
  split_given more = record {
    counts =
        All-append (λ (w : Drawer). w.count ≡ n) (set seats id l) (r ∷ [])
        (All-set (λ (w : Drawer). w.count ≡ n) seats id l count given.counts)
        (All-cons (λ (w : Drawer). w.count ≡ n) r [] count (All-nil (λ (w : Drawer). w.count ≡ n)));
    total =
        let one = sum_by-append shares_of (set seats id l) (r ∷ []) in
        let two = sum_by-set shares_of seats id l v inside in
        let was : (get_or seats id v).shares ≡ v.shares = ap shares_of read in
        let t : sum_by shares_of seats ≡ 65 = given.total in omega arith;
    drawn = λ y.
        let one = sum_by-append (times_in y) (set seats id l) (r ∷ []) in
        let two = sum_by-set (times_in y) seats id l v inside in
        let was : times_in y (get_or seats id v) ≡ times_in y v = ap (times_in y) read in
        let t : sum_by (times_in y) seats ≡ drawn_once y n x = given.drawn y in omega arith;
    past =
        All-append (λ (w : Drawer). w.past ≤ x) (set seats id l) (r ∷ [])
        (All-set (λ (w : Drawer). w.past ≤ x) seats id l own_past given.past)
        (All-cons (λ (w : Drawer). w.past ≤ x) r [] (omega arith) (All-nil (λ (w : Drawer). w.past ≤ x)));
    room = stays given.room;
    ended =
        All-append (λ (w : Drawer). w.ended ≡ true → n < x) (set seats id l) (r ∷ [])
        (All-set (λ (w : Drawer). w.ended ≡ true → n < x) seats id l own_end given.ended)
        (All-cons (λ (w : Drawer). w.ended ≡ true → n < x) r [] own_end (All-nil (λ (w : Drawer). w.ended ≡ true → n < x)));
    spent =
        All-append (λ (w : Drawer). w.shares ≡ 0 → w.numbers ≡ []) (set seats id l) (r ∷ [])
        (All-set (λ (w : Drawer). w.shares ≡ 0 → w.numbers ≡ []) seats id l (λ none. absurd (omega arith)) given.spent)
        (All-cons (λ (w : Drawer). w.shares ≡ 0 → w.numbers ≡ []) r [] (λ _. refl) (All-nil (λ (w : Drawer). w.shares ≡ 0 → w.numbers ≡ [])));
  }
    where
      stays : (x ≤ n) ⊎ (x + sum_by open_shares seats ≤ n + 65) → (x ≤ n) ⊎ (x + sum_by open_shares (set seats id l ++ r ∷ []) ≤ n + 65)
      stays (inl low) = inl low
      stays (inr near) =
          let one = sum_by-append open_shares (set seats id l) (r ∷ []) in
          let two = sum_by-set open_shares seats id l v inside in
          let was : open_shares (get_or seats id v) ≡ open_shares v = ap open_shares read in
          let both = split_open more in inr (omega arith)

-- ---- two seats are made one

module _ (n x id jd : ℕ) (seats : List Drawer) (v w : Drawer) (given : IsGiven n x seats) (inside : id < length seats)
    (read : get_or seats id v ≡ v) (other_inside : jd < length seats) (other_read : get_or seats jd w ≡ w) (apart : jd ≡ id → ⊥)
    (share : 0 < v.shares) where
  abbrev b : Drawer
  b = both_of v w

  abbrev s : Drawer
  s = spent_drawer v.count

  abbrev middle : List Drawer
  middle = set seats id b

  -- what is added up over all seats, of the old ones and the new
  joined : (f : Drawer → ℕ) → sum_by f (set middle jd s) + f v + f w ≡ sum_by f seats + f b + f s
  joined f =
      let one = sum_by-set f seats id b v inside in
      let two = sum_by-set f middle jd s w (rw (length-set seats id b) other_inside) in
      let was : f (get_or seats id v) ≡ f v = ap f read in
      let were : f (get_or middle jd w) ≡ f w = ap f (get_or-set_other seats id jd b w apart ∙ other_read) in omega arith

  both_open : open_shares b ≤ open_shares v + open_shares w
  both_open = go v.ended w.ended
    where
      go :
          (c d : Bool) →
          (if (if c then true else d) then 0 else (v.shares + w.shares)) ≤ (if c then 0 else v.shares) + (if d then 0 else w.shares)
      go true d = omega arith
      go false true = omega arith
      go false false = omega arith

  both_counts : v.count ≡ n
  both_counts = All-contains (λ (u : Drawer). u.count ≡ n) seats v given.counts (id, inside, read)

  both_past : v.past ≤ x
  both_past = All-contains (λ (u : Drawer). u.past ≤ x) seats v given.past (id, inside, read)

  both_ended : b.ended ≡ true → n < x
  both_ended =
      go v.ended w.ended (All-contains (λ (u : Drawer). u.ended ≡ true → n < x) seats v given.ended (id, inside, read))
      (All-contains (λ (u : Drawer). u.ended ≡ true → n < x) seats w given.ended (jd, other_inside, other_read))
    where
      go : (c d : Bool) → (c ≡ true → n < x) → (d ≡ true → n < x) → (if c then true else d) ≡ true → n < x
      go true d f g e = f refl
      go false d f g e = g e

  pub join_given : IsGiven n x (set middle jd s)
  join_given = record {
    counts =
        All-set (λ (u : Drawer). u.count ≡ n) middle jd s both_counts
        (All-set (λ (u : Drawer). u.count ≡ n) seats id b both_counts given.counts);
    total = let k = joined shares_of in let t : sum_by shares_of seats ≡ 65 = given.total in omega arith;
    drawn = λ y.
        let k = joined (times_in y) in
        let a = sum_by-append (λ z. if nat_eq z y then 1 else 0) v.numbers w.numbers in
        let t : sum_by (times_in y) seats ≡ drawn_once y n x = given.drawn y in omega arith;
    past =
        All-set (λ (u : Drawer). u.past ≤ x) middle jd s (omega arith)
        (All-set (λ (u : Drawer). u.past ≤ x) seats id b both_past given.past);
    room = stays given.room;
    ended =
        All-set (λ (u : Drawer). u.ended ≡ true → n < x) middle jd s (λ e. absurd (differ e))
        (All-set (λ (u : Drawer). u.ended ≡ true → n < x) seats id b both_ended given.ended);
    spent =
        All-set (λ (u : Drawer). u.shares ≡ 0 → u.numbers ≡ []) middle jd s (λ _. refl)
        (All-set (λ (u : Drawer). u.shares ≡ 0 → u.numbers ≡ []) seats id b (λ none. absurd (omega arith)) given.spent);
  }
    where
      stays : (x ≤ n) ⊎ (x + sum_by open_shares seats ≤ n + 65) → (x ≤ n) ⊎ (x + sum_by open_shares (set middle jd s) ≤ n + 65)
      stays (inl low) = inl low
      stays (inr near) = let k = joined open_shares in let o = both_open in inr (omega arith)

-- ---- a seat that has ended, with all shares

nothing_drawn :
    (x : ℕ) (seats : List Drawer) → sum_by shares_of seats ≡ 0 →
    All (λ (v : Drawer). v.shares ≡ 0 → v.numbers ≡ []) seats → sum_by (times_in x) seats ≡ 0
nothing_drawn x [] none spent = refl
nothing_drawn x (v ∷ vs) none spent =
    let sum = sum_by-cons shares_of v vs in
    let own : v.shares ≡ 0 = omega arith in
    let rest : sum_by shares_of vs ≡ 0 = omega arith in
    let numbers : times_in x v ≡ 0 =
    ap (λ ns. sum_by (λ y. if nat_eq y x then 1 else 0) ns) (All-head (λ (u : Drawer). u.shares ≡ 0 → u.numbers ≡ []) v vs spent own) in
    let more = nothing_drawn x vs rest (All-tail (λ (u : Drawer). u.shares ≡ 0 → u.numbers ≡ []) v vs spent) in
    let all = sum_by-cons (times_in x) v vs in omega arith

drawn_all : (x n next : ℕ) → n < next → drawn_once x n next ≡ (if nat_lt x n then 1 else 0)
drawn_all x n next late = grind (arith, nat_tests)

pub whole_seat :
    (n next : ℕ) (seats : List Drawer) (v : Drawer) → IsGiven n next seats → Contains seats v → v.shares ≡ 65 → v.ended ≡ true →
    HasEachOnce n v.numbers
whole_seat n next seats v given (id, inside, read) whole over x =
    let gone = spent_drawer v.count in
    let sum = sum_by-set shares_of seats id gone v inside in
    let was : (get_or seats id v).shares ≡ v.shares = ap shares_of read in
    let t : sum_by shares_of seats ≡ 65 = given.total in
    let none : sum_by shares_of (set seats id gone) ≡ 0 = omega arith in
    let others = nothing_drawn x (set seats id gone) none
    (All-set (λ (u : Drawer). u.shares ≡ 0 → u.numbers ≡ []) seats id gone (λ _. refl) given.spent) in
    let own = sum_by-set (times_in x) seats id gone v inside in
    let is : times_in x (get_or seats id v) ≡ times_in x v = ap (times_in x) read in
    let all : sum_by (times_in x) seats ≡ drawn_once x n next = given.drawn x in
    let late : n < next = All-contains (λ (u : Drawer). u.ended ≡ true → n < next) seats v given.ended (id, inside, read) over in
    let end = drawn_all x n next late in omega arith
