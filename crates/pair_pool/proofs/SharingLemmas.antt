-- A load for the parts of a cell, the split of a pass and the join of two keep the good states.
use Rattle.std.proofs.Common.{◌≡◌, ℕ, ◌+◌, ◌-◌, ◌^◌, ◌<◌, ◌≤◌, ◌⊎◌, inl, inr, List, [], ◌∷◌, ◌++◌, length, map, get_or, set, length-set, Any, sum_by}
use Rattle.std.proofs.Common.{refl, ap, sym, ◌∙◌, subst, arith, get_or-set_same, get_or-set_other}
use mathlib.Core.Option.{none}
use Rattle.std.proofs.lemmas.Bool.{cases_eq}
use Rattle.std.proofs.lemmas.List.{map-set, map-append, length-append, get_or_append_left, get_or_read}
use Rattle.std.proofs.lemmas.List.Sums.{sum_by-set, sum_by-append}
use Rattle.std.proofs.lemmas.List.Elements.{All-set, All-append, All-cons, All-nil, All-contains, Contains-append_left, Contains-append_right}
use Rattle.std.proofs.lemmas.List.Elements.{Contains-append_cases, Contains-push}
use Rattle.std.proofs.lemmas.List.Quantifiers.{any-set}
use Rattle.atomic_table.specs.Table as Atomic
use Rattle.atomic_table.specs.declared.shared.Seat.{Seat}
use Rattle.atomic_table.proofs.Lists.{at_map}
use Rattle.pair_pool.specs.declared.holder.Holder.{Holder}
use Rattle.pair_pool.specs.Views.{Cell, PassView, IsListed}
use Rattle.pair_pool.specs.Words.{cell_word, IsCell}
use Rattle.pair_pool.specs.GoodStates.{State, TellsTruth, IsSpentIfShareless, IsGood}
use Rattle.pair_pool.specs.Holders.{view_of, IsListedPart, after_empty, left_half, right_half, both_of, spent_holder}
use Rattle.pair_pool.specs.Sharing.{Me, IsShared, IsInGood, IsLive, Looked, looked}
use Rattle.pair_pool.proofs.WordLemmas.{same_parts}
use Rattle.pair_pool.proofs.SharedLemmas.{at_inside, at_read, set_contains, own_truth, stays_good, in_good, empty_truth}

-- ---- a load

pub looks_at : (slots id place : ℕ) (me : Me) → 0 < me.0.shares →
    Atomic.Allows IsShared slots id me place (λ n. n) (looked (Atomic.step slots place 0 0 none) me)
looks_at slots id place me share s good _ at _ =
    let w = after_empty me.0 in
    let k = stays_good s good id me.0 at share place w (empty_truth s good id me.0 at share) refl refl in
    let truth = own_truth s good id me.0 at share in (
      w,
      Atomic.keeps,
      tt,
      k,
      record {
        slots = refl;
        view = refl;
        good = in_good s good id me.0 at share place (get_or s.words place 0) w k;
        word = λ c d g. let back : 2 ^ 30 + place - 2 ^ 30 ≡ place = omega arith in rw back at (truth.seen (2 ^ 30 + place) c d g).spelled;
      },
    )

-- ---- lists

any_left : {X : Type 0} → (P : X → Type 0) (xs ys : List X) → Any P xs → Any P (xs ++ ys)
any_left P xs ys (k, x, below, is, p) = (k, x, rw (length-append xs ys) (omega arith), get_or_append_left xs ys x k below ∙ is, p)

none_listed : (r a b : ℕ) → IsListed [] r a b → ⊥
unfolding IsListed
none_listed r a b (k, below, _) = absurd (omega arith)

pub listed_left : (xs ys : List Cell) (r a b : ℕ) → IsListed xs r a b → IsListed (xs ++ ys) r a b
unfolding IsListed
listed_left xs ys r a b h = Contains-append_left xs ys _ h

pub listed_right : (xs ys : List Cell) (r a b : ℕ) → IsListed ys r a b → IsListed (xs ++ ys) r a b
unfolding IsListed
listed_right xs ys r a b h = Contains-append_right xs ys _ h

pub listed_either : (xs ys : List Cell) (r a b : ℕ) → IsListed (xs ++ ys) r a b → IsListed xs r a b ⊎ IsListed ys r a b
unfolding IsListed
listed_either xs ys r a b h = Contains-append_cases xs ys _ h

-- ---- a split

module _ (words : List ℕ) (passes : List PassView) (id : ℕ) (h : Holder) (good : IsGood (record { words = words; passes = passes }))
    (inside : id < length passes) (read : get_or passes id (view_of h) ≡ view_of h) (shares : 1 < h.shares) where
  abbrev l : PassView
  l = view_of (left_half h)

  abbrev r : PassView
  r = view_of (right_half h)

  truth : TellsTruth words (view_of h)
  truth = All-contains (TellsTruth words) passes (view_of h) good.passes (id, inside, read)

  left_truth : TellsTruth words l
  left_truth = record {
    places = truth.places;
    seen = truth.seen;
    known = truth.known;
    placed = truth.placed;
    first_part = truth.first_part;
    second_part = truth.second_part;
  }

  right_truth : TellsTruth words r
  right_truth = record {
    places = truth.places;
    seen = truth.seen;
    known = truth.known;
    placed = λ q a b g. absurd (none_listed q a b g);
    first_part =
        truth.first_part;
    second_part = truth.second_part;
  }

  pub split_good : IsGood (record { words = words; passes = set passes id l ++ r ∷ [] })
  split_good = record {
    table = good.table;
    passes = All-append (TellsTruth words) (set passes id l) (r ∷ []) (All-set (TellsTruth words) passes id l left_truth good.passes)
        (All-cons (TellsTruth words) r [] right_truth (All-nil (TellsTruth words)));
    filled = λ q a b is. any_left (λ p. IsListed p.placed q a b) (set passes id l) (r ∷ []) (filled q a b (good.filled q a b is));
    total =
        let one = sum_by-append (λ (p : PassView). p.shares) (set passes id l) (r ∷ []) in
        let two = sum_by-set (λ (p : PassView). p.shares) passes id l (view_of h) inside in
        let was : (get_or passes id (view_of h)).shares ≡ h.shares = ap (λ (p : PassView). p.shares) read in
        let all : sum_by (λ (p : PassView). p.shares) passes ≡ 65 = good.total in omega arith;
    spent =
        All-append IsSpentIfShareless (set passes id l) (r ∷ [])
        (All-set IsSpentIfShareless passes id l (λ gone. absurd (omega arith)) good.spent)
        (All-cons IsSpentIfShareless r [] (λ gone. absurd (omega arith)) (All-nil IsSpentIfShareless));
  }
    where
      filled : (q a b : ℕ) → Any (λ p. IsListed p.placed q a b) passes → Any (λ p. IsListed p.placed q a b) (set passes id l)
      filled q a b (j, other, below, there, listed) = go (cases_eq j id)
        where
          go : (j ≡ id) ⊎ (j ≡ id → ⊥) → Any (λ p. IsListed p.placed q a b) (set passes id l)
          go (inl same) =
              let one : other ≡ view_of h = sym there ∙ ap (λ k. get_or passes k other) same ∙
              sym (get_or_read passes id (view_of h) inside (sym read) other) in
              any-set (λ p. IsListed p.placed q a b) passes id l inside (subst (λ (p : PassView). IsListed p.placed q a b) one listed)
          go (inr differs) = (j, other, rw (length-set passes id l) below, get_or-set_other passes id j l other differs ∙ there, listed)

pub splits : (id : ℕ) (h : Holder) → 1 < h.shares → Atomic.Splits IsShared id h (left_half h) (right_half h)
splits id h shares s good at =
    let passes = map view_of s.views in
    let here = at_map view_of s.views id h at in
    rw (map-append view_of (set s.views id (left_half h)) (right_half h ∷ []), map-set view_of s.views id (left_half h))
    (split_good s.words passes id h good (at_inside passes id (view_of h) here) (at_read passes id (view_of h) (view_of h) here) shares)

module _ (seat : Seat (Unit {0}) Holder) (live : IsLive seat) (shares : 1 < seat.me.0.shares) where
  abbrev was : IsInGood (view_of seat.me.0)
  was = live.good

  abbrev one_half : PassView
  one_half = view_of (left_half seat.me.0)

  abbrev other_half : PassView
  other_half = view_of (right_half seat.me.0)

  abbrev halves : State
  halves = record { words = was.state.words; passes = set was.state.passes was.among.0 one_half ++ other_half ∷ [] }

  halves_good : IsGood halves
  halves_good = split_good was.state.words was.state.passes was.among.0 seat.me.0 was.good was.among.1 was.among.2 shares

  one_in_good : IsInGood one_half
  one_in_good = record {
    state = halves;
    good = halves_good;
    among =
        Contains-append_left (set was.state.passes was.among.0 one_half) (other_half ∷ []) one_half
        (set_contains was.state.passes was.among.0 one_half was.among.1);
  }

  other_in_good : IsInGood other_half
  other_in_good = record {
    state = halves;
    good = halves_good;
    among =
        Contains-append_right (set was.state.passes was.among.0 one_half) (other_half ∷ []) other_half (Contains-push [] other_half);
  }

  pub splits_live : (one other : Seat (Unit {0}) Holder) → one.me ≡ (left_half seat.me.0, seat.me.1) → other.me ≡ (right_half seat.me.0, []) →
      IsLive one × IsLive other
  splits_live one other is1 is2 = (
    record { good = rw is1 one_in_good; some = rw is1 (omega arith); slots = rw is1 live.slots },
    record { good = rw is2 other_in_good; some = rw is2 (omega arith); slots = rw is2 refl },
  )

-- ---- a join

module _ (words : List ℕ) (passes : List PassView) (id jd : ℕ) (g h : Holder) (good : IsGood (record { words = words; passes = passes }))
    (inside : id < length passes) (read : get_or passes id (view_of g) ≡ view_of g) (other_inside : jd < length passes)
    (other_read : get_or passes jd (view_of h) ≡ view_of h)
    (apart : jd ≡ id → ⊥) (share : 0 < g.shares) where
  abbrev b : PassView
  b = view_of (both_of g h)

  abbrev s : PassView
  s = view_of (spent_holder g.places)

  g_truth : TellsTruth words (view_of g)
  g_truth = All-contains (TellsTruth words) passes (view_of g) good.passes (id, inside, read)

  h_truth : TellsTruth words (view_of h)
  h_truth = All-contains (TellsTruth words) passes (view_of h) good.passes (jd, other_inside, other_read)

  part_left : (q : ℕ) → IsListedPart g.known q → IsListedPart (g.known ++ h.known) q
  part_left q (inl low) = inl low
  part_left q (inr (c, d, k)) = inr (c, d, listed_left g.known h.known q c d k)

  part_right : (q : ℕ) → IsListedPart h.known q → IsListedPart (g.known ++ h.known) q
  part_right q (inl low) = inl low
  part_right q (inr (c, d, k)) = inr (c, d, listed_right g.known h.known q c d k)

  spread : (xs ys zs ws : List Cell) → ((q c d : ℕ) → IsListed xs q c d → IsListed zs q c d) → ((q c d : ℕ) → IsListed ys q c d → IsListed ws q c d) →
      (q c d : ℕ) → IsListed (xs ++ ys) q c d → IsListed (zs ++ ws) q c d
  spread xs ys zs ws f e q c d k = go (listed_either xs ys q c d k)
    where
      go : IsListed xs q c d ⊎ IsListed ys q c d → IsListed (zs ++ ws) q c d
      go (inl m) = listed_left zs ws q c d (f q c d m)
      go (inr m) = listed_right zs ws q c d (e q c d m)

  both_seen : (q c d : ℕ) → IsListed g.seen q c d ⊎ IsListed h.seen q c d → IsCell words q c d
  both_seen q c d (inl k) = g_truth.seen q c d k
  both_seen q c d (inr k) = h_truth.seen q c d k

  both_parts : (q c d : ℕ) → IsListed g.known q c d ⊎ IsListed h.known q c d → IsListedPart (g.known ++ h.known) c × IsListedPart (g.known ++ h.known) d
  both_parts q c d (inl k) = (part_left c (g_truth.first_part q c d k), part_left d (g_truth.second_part q c d k))
  both_parts q c d (inr k) = (part_right c (h_truth.first_part q c d k), part_right d (h_truth.second_part q c d k))

  both_truth : TellsTruth words b
  both_truth = record {
    places = g_truth.places;
    seen = λ q c d k. both_seen q c d (listed_either g.seen h.seen q c d k);
    known = spread g.known h.known g.seen h.seen g_truth.known h_truth.known;
    placed = spread g.placed h.placed g.known h.known g_truth.placed h_truth.placed;
    first_part = λ q c d k. (both_parts q c d (listed_either g.known h.known q c d k)).0;
    second_part = λ q c d k. (both_parts q c d (listed_either g.known h.known q c d k)).1;
  }

  spent_truth : TellsTruth words s
  spent_truth = record {
    places = g_truth.places;
    seen = λ q c d k. absurd (none_listed q c d k);
    known = λ q c d k. k;
    placed = λ q c d k. k;
    first_part = λ q c d k. absurd (none_listed q c d k);
    second_part = λ q c d k. absurd (none_listed q c d k);
  }

  abbrev middle : List PassView
  middle = set passes id b

  abbrev after : List PassView
  after = set middle jd s

  pub join_good : IsGood (record { words = words; passes = after })
  join_good = record {
    table = good.table;
    passes = All-set (TellsTruth words) middle jd s spent_truth (All-set (TellsTruth words) passes id b both_truth good.passes);
    filled = λ q c d is. filled q c d (good.filled q c d is);
    total =
        let one = sum_by-set (λ (p : PassView). p.shares) passes id b (view_of g) inside in
        let two = sum_by-set (λ (p : PassView). p.shares) middle jd s (view_of h) (rw (length-set passes id b) other_inside) in
        let was : (get_or passes id (view_of g)).shares ≡ g.shares = ap (λ (p : PassView). p.shares) read in
        let were : (get_or middle jd (view_of h)).shares ≡ h.shares =
        ap (λ (p : PassView). p.shares) (get_or-set_other passes id jd b (view_of h) apart ∙ other_read) in
        let all : sum_by (λ (p : PassView). p.shares) passes ≡ 65 = good.total in omega arith;
    spent = All-set IsSpentIfShareless middle jd s (λ gone. (refl, refl, refl))
        (All-set IsSpentIfShareless passes id b (λ gone. absurd (omega arith)) good.spent);
  }
    where
      inside_middle : id < length middle
      inside_middle = rw (length-set passes id b) inside

      in_both : (q c d : ℕ) → IsListed b.placed q c d → Any (λ p. IsListed p.placed q c d) after
      in_both q c d listed = (
        id,
        b,
        rw (length-set middle jd s) inside_middle,
        get_or-set_other middle jd id s b (λ e. apart (sym e)) ∙
            get_or-set_same passes id b b inside,
        listed,
      )

      filled : (q c d : ℕ) → Any (λ p. IsListed p.placed q c d) passes → Any (λ p. IsListed p.placed q c d) after
      filled q c d (j, x, below, there, listed) = go (cases_eq j id) (cases_eq j jd)
        where
          go : (j ≡ id) ⊎ (j ≡ id → ⊥) → (j ≡ jd) ⊎ (j ≡ jd → ⊥) → Any (λ p. IsListed p.placed q c d) after
          go (inl same) _ =
              let one : x ≡ view_of g = sym there ∙ ap (λ k. get_or passes k x) same ∙ sym (get_or_read passes id (view_of g) inside (sym read) x) in
              in_both q c d (listed_left g.placed h.placed q c d (subst (λ (p : PassView). IsListed p.placed q c d) one listed))
          go (inr _) (inl same) =
              let one : x ≡ view_of h = sym there ∙ ap (λ k. get_or passes k x) same ∙
              sym (get_or_read passes jd (view_of h) other_inside (sym other_read) x) in
              in_both q c d (listed_right g.placed h.placed q c d (subst (λ (p : PassView). IsListed p.placed q c d) one listed))
          go (inr not) (inr not') = (
            j,
            x,
            rw (length-set middle jd s, length-set passes id b) below,
            get_or-set_other middle jd j s x not' ∙
                get_or-set_other passes id j b x not ∙ there,
            listed,
          )

pub joins : (id jd places : ℕ) (g h : Holder) → 0 < g.shares → g.places ≡ places → Atomic.Joins IsShared id g jd h (both_of g h) (spent_holder places)
joins id jd places g h share wide s good at apart at2 =
    let passes = map view_of s.views in
    let here = at_map view_of s.views id g at in
    let there = at_map view_of (set s.views id (both_of g h)) jd h at2 in
    let middle = rw (map-set view_of s.views id (both_of g h)) at there in
    let inside_other : jd < length passes = rw (length-set passes id (view_of (both_of g h))) at
    (at_inside (set passes id (view_of (both_of g h))) jd (view_of h) middle) in
    let read_other = sym (get_or-set_other passes id jd (view_of (both_of g h)) (view_of h) apart) ∙
    at_read (set passes id (view_of (both_of g h))) jd (view_of h) (view_of h) middle in
    rw (map-set view_of (set s.views id (both_of g h)) jd (spent_holder places), map-set view_of s.views id (both_of g h), ← wide)
    (join_good s.words passes id jd g h good (at_inside passes id (view_of g) here) (at_read passes id (view_of g) (view_of g) here) inside_other
    read_other apart share)

-- ---- what a live pass knows of a cell that it knows

pub listed_cell : (seat : Seat (Unit {0}) Holder) → IsLive seat → (r a b : ℕ) → IsListed seat.me.0.known r a b → (2 ^ 30 ≤ r) ×
    (r < 2 ^ 30 + seat.me.0.places) × (a < 2 ^ 31) × (b < 2 ^ 31)
listed_cell seat live r a b h =
    let truth = All-contains (TellsTruth live.good.state.words) live.good.state.passes (view_of seat.me.0) live.good.good.passes live.good.among in
    let is = truth.seen r a b (truth.known r a b h) in
    (is.is_cell, rw truth.places is.inside, is.first_fits, is.second_fits)

pub listed_word : (seat : Seat (Unit {0}) Holder) → IsLive seat → (r a b found : ℕ) (new : Me) → IsListed seat.me.0.known r a b →
    Looked seat.me (r - 2 ^ 30) found new → found ≡ cell_word a b
listed_word seat live r a b found new h l =
    let truth = All-contains (TellsTruth live.good.state.words) live.good.state.passes (view_of seat.me.0) live.good.good.passes live.good.among in
    let seen = truth.known r a b h in
    let high : 2 ^ 30 ≤ r = (truth.seen r a b seen).is_cell in
    let back : 2 ^ 30 + (r - 2 ^ 30) ≡ r = omega arith in
    l.word a b (rw back seen)

pub listed_same : (cells : List Cell) (r a b c d : ℕ) → a < 2 ^ 31 → b < 2 ^ 31 → c < 2 ^ 31 → d < 2 ^ 31 → cell_word a b ≡ cell_word c d →
    IsListed cells r a b → IsListed cells r c d
listed_same cells r a b c d fa fb fc fd e h = let same = same_parts a b c d fa fb fc fd e in rw (← same.0, ← same.1) h
