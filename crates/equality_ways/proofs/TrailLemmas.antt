-- Ways that are read back.
use Rattle.std.proofs.Common.{◌≡◌, ◌⊎◌, inl, inr, ◌<◌, ◌≤◌, ℕ, zero, suc, nat_eq, not, Bool, true, false, List, [], ◌∷◌, ◌++◌, length, map, get_or, slice_get, Option, Some, refl, sym, ap, ◌∙◌, subst, arith, Contains}
use Rattle.std.specs.List.{AllByRecursion, IsDistinct, position}
use Rattle.std.proofs.lemmas.List.Quantifiers.{position-Some}
use Rattle.std.proofs.lemmas.Bool.{eqb-true}
use Rattle.std.proofs.lemmas.Map.Steps.{length-le_from_distinct_below}
use Rattle.std.proofs.lemmas.Option.{slice_get_within, slice_get-get_or}
use Rattle.rule_model.specs.Congruence.{IsConnected, here, further}
use Rattle.term_model.proofs.Lists.{any_of, contains_none, contains_cases}
use Rattle.equality_ways.proofs.Places.{contains_of_get, get_of_contains}
use Rattle.equality_ways.specs.declared.pairs.Used.{Used}
use Rattle.equality_ways.specs.declared.reaching.Step.{Step}
use Rattle.equality_ways.specs.declared.table.Entry.{Entry}
use Rattle.equality_ways.specs.declared.table.Table.{Table}
use Rattle.equality_ways.specs.Reaching.{AreBackward, AreFollowed, AreInOrder, AreReached, IsReachedBy, IsTrail, other_way}
use Rattle.equality_ways.specs.Tables.{IsTableOf, entry}
use Rattle.equality_ways.specs.Ways.{AreEnds, IsNeverTwice, IsShortest, IsWayOver, LeadsTo, turned_if}

-- one step more back
pub trail_next : (steps : List Step) (place at : ℕ) (step : Step) (used : List Used) (u : Used) → IsTrail steps place at used → 0 < at → slice_get steps at ≡ Some step → u ≡ other_way step.used → IsTrail steps place step.from (used ++ u ∷ [])
trail_next steps place at step [] u h up is e = (subst (λ k. 0 < k) (sym h) up, step, ap (slice_get steps) h ∙ is, e, refl)
trail_next steps place at step (w ∷ used) u (low, first, first_is, w_is, rest) up is e =
    (low, first, first_is, w_is, trail_next steps first.from at step used u rest up is e)

pub backward : (entries : List Entry) (start : ℕ) (keys : List ℕ) (steps : List Step) → AreReached entries start keys steps → AreBackward steps
backward entries start keys steps h place step up is =
    let inside = slice_get_within steps place step is in
    let same = h.aligned in
    (h.each place (get_or keys place 0) step up (slice_get-get_or keys place 0 (omega (arith, inside, same))) is).earlier

flips : (t : Bool) (a b : ℕ) → turned_if t (a, b) ≡ turned_if (not t) (b, a)
flips true a b = refl
flips false a b = refl

turned_leads : (sides : List (Option (ℕ × ℕ))) (u : Used) (a b : ℕ) → LeadsTo sides u a b → LeadsTo sides (other_way u) b a
turned_leads sides u a b h = h ∙ ap (λ (p : ℕ × ℕ). Some (Some p)) (flips u.turned a b)

some_same : (x y : ℕ) → Some x ≡ Some y → x ≡ y
some_same x y e = cc

pair_same : (x y : ℕ × ℕ) → Some (Some x) ≡ Some (Some y) → x ≡ y
pair_same x y e = cc

-- two uses of one equality have an end in common
one_of : (t w : Bool) (a b c d : ℕ) → turned_if t (a, b) ≡ turned_if w (c, d) → (b ≡ d) ⊎ (b ≡ c)
one_of true true a b c d e = inl (ap (λ (p : ℕ × ℕ). p.0) e)
one_of true false a b c d e = inr (ap (λ (p : ℕ × ℕ). p.0) e)
one_of false true a b c d e = inr (ap (λ (p : ℕ × ℕ). p.1) e)
one_of false false a b c d e = inl (ap (λ (p : ℕ × ℕ). p.1) e)

module _ (sides : List (Option (ℕ × ℕ))) (entries : List Entry) (start : ℕ) (keys : List ℕ) (steps : List Step)
    (sound : (e : Entry) → Contains entries e → LeadsTo sides e.used e.from e.to) (h : AreReached entries start keys steps) where
  -- the steps back are a way
  pub trail_leads : (used : List Used) (place key : ℕ) → slice_get keys place ≡ Some key → IsTrail steps place 0 used → IsWayOver sides key start used
  trail_leads [] place key at end = some_same key start (sym at ∙ (ap (slice_get keys) end ∙ h.begins))
  trail_leads (u ∷ used) place key at (up, step, is, u_is, rest) =
      let from = h.each place key step up at is in
      let leads = turned_leads sides step.used from.source key (sound (entry from.source key step.used) from.there) in
      (from.source, subst (λ (w : Used). LeadsTo sides w key from.source) (sym u_is) leads, trail_leads used step.from from.source from.is_source rest)

  -- steps at different places use different equalities
  differ : (place lower key other : ℕ) (step step2 : Step) → 0 < lower → lower < place → slice_get keys place ≡ Some key → slice_get keys lower ≡ Some other →
      slice_get steps place ≡ Some step → slice_get steps lower ≡ Some step2 → step.used.place ≡ step2.used.place → ⊥
  differ place lower key other step step2 up below at at2 is is2 same =
      let one = h.each place key step (omega (arith, up, below)) at is in
      let two = h.each lower other step2 up at2 is2 in
      let leads = sound (entry one.source key step.used) one.there in
      let leads2 = sound (entry two.source other step2.used) two.there in
      let ends : turned_if step.used.turned (one.source, key) ≡ turned_if step2.used.turned (two.source, other) =
      pair_same (turned_if step.used.turned (one.source, key)) (turned_if step2.used.turned (two.source, other)) (sym leads ∙ (ap (slice_get sides) same ∙ leads2)) in
      elim (one_of step.used.turned step2.used.turned one.source key two.source other ends) [
        | inl e ↦ (let clash = h.one_place place lower key at (at2 ∙ ap Some (sym e)) in omega (arith, clash, below))
        | inr e ↦ (let clash = h.one_place place step2.from key at (two.is_source ∙ ap Some (sym e)) in let earlier = two.earlier in omega (arith, clash, below, earlier))
      ]

  key_of : (place : ℕ) (step : Step) → slice_get steps place ≡ Some step → slice_get keys place ≡ Some (get_or keys place 0)
  key_of place step is =
      let inside = slice_get_within steps place step is in
      let same = h.aligned in
      slice_get-get_or keys place 0 (omega (arith, inside, same))

  apart : (used : List Used) (place lower : ℕ) (step : Step) → lower < place → slice_get steps place ≡ Some step → IsTrail steps lower 0 used →
      AllByRecursion (λ y. nat_eq step.used.place y ≡ false) (map (λ (u : Used). u.place) used)
  apart [] place lower step below is trail = tt
  apart (u ∷ used) place lower step below is (up, step2, is2, u_is, rest) =
      (go (nat_eq step.used.place u.place) refl, apart used place step2.from step (omega (arith, below, earlier)) is rest)
    where
      earlier : step2.from < lower
      earlier = (h.each lower (get_or keys lower 0) step2 up (key_of lower step2 is2) is2).earlier

      go : (b : Bool) → nat_eq step.used.place u.place ≡ b → nat_eq step.used.place u.place ≡ false
      go false e = e
      go true e =
          absurd (differ place lower (get_or keys place 0) (get_or keys lower 0) step step2 up below (key_of place step is) (key_of lower step2 is2) is is2
          (eqb-true step.used.place u.place e ∙ ap (λ (w : Used). w.place) u_is))

  pub trail_once : (used : List Used) (place : ℕ) → IsTrail steps place 0 used → IsNeverTwice used
  unfolding IsDistinct
  trail_once [] place trail = tt
  trail_once (u ∷ used) place (up, step, is, u_is, rest) =
      let earlier = (h.each place (get_or keys place 0) step up (key_of place step is) is).earlier in
      (subst (λ n. AllByRecursion (λ y. nat_eq n y ≡ false) (map (λ (w : Used). w.place) used)) (sym (ap (λ (w : Used). w.place) u_is)) (apart used place step.from step earlier is rest), trail_once used step.from rest)

-- the places of a way are places of equalities, so there are no more of them
places_within : (sides : List (Option (ℕ × ℕ))) (used : List Used) (a b q : ℕ) → IsWayOver sides a b used → Contains (map (λ (u : Used). u.place) used) q → q < length sides
places_within sides [] a b q way h = absurd (contains_none q h)
places_within sides (u ∷ used) a b q (next, leads, more) h =
    elim (contains_cases u.place q (map (λ (w : Used). w.place) used) h) [
      | inl e ↦ subst (λ k. k < length sides) e (slice_get_within sides u.place (Some (turned_if u.turned (a, next))) leads)
      | inr later ↦ places_within sides used next b q more later
    ]

length_map : (used : List Used) → length (map (λ (u : Used). u.place) used) ≡ length used
length_map [] = refl
length_map (u ∷ used) = ap suc (length_map used)

pub way_short : (sides : List (Option (ℕ × ℕ))) (used : List Used) (a b : ℕ) → IsWayOver sides a b used → IsNeverTwice used → length used ≤ length sides
way_short sides used a b way once =
    let short = length-le_from_distinct_below (map (λ (u : Used). u.place) used) (length sides) once
    (λ q e. places_within sides used a b q way (any_of q (map (λ (u : Used). u.place) used) e)) in
    let same = length_map used in
    omega (arith, short, same)

-- the place of a key
pub place_of : (keys : List ℕ) (key place : ℕ) → position (nat_eq key) keys ≡ Some place → slice_get keys place ≡ Some key
place_of keys key place e =
    let found = position-Some (nat_eq key) keys place 0 e in
    slice_get-get_or keys place 0 found.0 ∙ ap Some (sym (eqb-true key (get_or keys place 0) found.1))

-- what is not reached is not connected
pub not_connected : (sides : List (Option (ℕ × ℕ))) (table : Table) (from to : ℕ) (keys : List ℕ) (steps : List Step) → IsTableOf sides table → AreReached table.entries.items to keys steps → AreFollowed table.entries.items (length keys) keys steps → (¬ Contains keys from) → ¬ IsConnected (AreEnds sides) from to
not_connected sides table from to keys steps is h closed missing way = missing (carried from to way (contains_of_get keys 0 to h.begins))
  where
    turn : (a b : ℕ) → AreEnds sides a b → AreEnds sides b a
    turn a b (inl e) = inr e
    turn a b (inr e) = inl e

    carried : (x y : ℕ) → IsConnected (AreEnds sides) x y → Contains keys y → Contains keys x
    carried _ _ (here x) there = there
    carried _ _ (further x w y near more) there =
        let at = get_of_contains keys w (carried w y more there) in
        let back = is.complete w x (turn x w near) in
        let found = closed at.0 w x back.used (slice_get_within keys at.0 w at.1) at.1 back.there in
        contains_of_get keys found.place x found.is

step_same : (x y : Step) → Some x ≡ Some y → x ≡ y
step_same x y e = cc

-- of two places that were reached, the way back from the earlier one is no longer
module _ (steps : List Step) (at : ℕ) (back : AreBackward steps) (order : AreInOrder steps at) where
  pub earlier_shorter : (used other : List Used) (place later : ℕ) → place ≤ later → IsTrail steps place 0 used → IsTrail steps later 0 other → length used ≤ length other
  earlier_shorter [] other place later up one two = omega arith
  earlier_shorter (u ∷ used) [] place later up (high, step, is, u_is, one) end = absurd (omega (arith, high, up, end))
  earlier_shorter (u ∷ used) (w ∷ other) place later up (high, step, is, u_is, one) (high2, step2, is2, w_is, two) =
      let rest = earlier_shorter used other step.from step2.from (order.rising place later step step2 up is is2) one two in omega (arith, rest)

  -- each place has a way back
  trail_to : (n place : ℕ) → place ≤ n → place < length steps → (used : List Used) × IsTrail steps place 0 used
  trail_to zero place low inside = ([], omega (arith, low))
  trail_to (suc n) zero low inside = ([], refl)
  trail_to (suc n) (suc k) low inside =
      let none : Step = record { from = 0; used = record { place = 0; turned = false } } in
      let is : slice_get steps (suc k) ≡ Some (get_or steps (suc k) none) = slice_get-get_or steps (suc k) none inside in
      let step = get_or steps (suc k) none in
      let earlier : step.from < suc k = back (suc k) step (omega arith) is in
      let rest = trail_to n step.from (omega (arith, earlier, low)) (omega (arith, earlier, inside)) in
      (other_way step.used ∷ rest.0, (omega arith, step, is, refl, rest.1))

  pub trail_of : (place : ℕ) → place < length steps → (used : List Used) × IsTrail steps place 0 used
  trail_of place inside = trail_to place place (omega arith) inside

-- the way back is no longer than any other way
module _ (sides : List (Option (ℕ × ℕ))) (table : Table) (to : ℕ) (keys : List ℕ) (steps : List Step) (is : IsTableOf sides table)
    (h : AreReached table.entries.items to keys steps) (order : AreInOrder steps (length keys)) (closed : AreFollowed table.entries.items (length keys) keys steps) where
  back : AreBackward steps
  back = backward table.entries.items to keys steps h

  -- where a way leads on from a reference, this is reached from the next one or from a place before it
  near : (u : Used) (x next place : ℕ) → LeadsTo sides u x next → slice_get keys place ≡ Some next → IsReachedBy keys steps place x
  near u x next place leads at =
      let entry_back = is.complete next x (ends_of u.turned leads) in
      closed place next x entry_back.used (slice_get_within keys place next at) at entry_back.there
    where
      ends_of : (t : Bool) → slice_get sides u.place ≡ Some (Some (turned_if t (x, next))) → AreEnds sides next x
      ends_of true e = inl (contains_of_get sides u.place (Some (next, x)) e)
      ends_of false e = inr (contains_of_get sides u.place (Some (x, next)) e)

  inside_steps : (place key : ℕ) → slice_get keys place ≡ Some key → place < length steps
  inside_steps place key at =
      let inside = slice_get_within keys place key at in
      let same = h.aligned in
      omega (arith, inside, same)

  one_more : (n next_place x : ℕ) (by : IsReachedBy keys steps next_place x) → next_place < length steps →
      ((t : List Used) → IsTrail steps next_place 0 t → length t ≤ n) → (used : List Used) → IsTrail steps by.place 0 used → length used ≤ suc n
  one_more n next_place x by inside bound [] trail = omega arith
  one_more n next_place x by inside bound (w ∷ used) (high, step, is_step, w_is, rest) =
      let next = trail_of steps (length keys) back order next_place inside in
      let low = by.low in
      let same : step.from ≡ by.step.from = ap (λ (s : Step). s.from) (step_same step by.step (sym is_step ∙ by.is_step)) in
      let short = earlier_shorter steps (length keys) back order used next.0 step.from next_place (omega (arith, low, same)) rest next.1 in
      let most = bound next.0 next.1 in
      omega (arith, short, most)

  -- all from which a way leads to the end are reached, and the way back from there is no longer
  no_longer : (other : List Used) (x : ℕ) → IsWayOver sides x to other → (place : ℕ) × (slice_get keys place ≡ Some x) × ((used : List Used) → IsTrail steps place 0 used → length used ≤ length other)
  no_longer [] x same = (0, h.begins ∙ ap Some (sym same), λ used trail. from_start used trail)
    where
      from_start : (used : List Used) → IsTrail steps 0 0 used → length used ≤ 0
      from_start [] trail = omega arith
      from_start (u ∷ used) (high, step, is, u_is, more) = absurd (omega (arith, high))
  no_longer (u ∷ other) x (next, leads, more) =
      let rest = no_longer other next more in
      let by = near u x next rest.0 leads rest.1 in
      (by.place, by.is, λ used trail. one_more (length other) rest.0 x by (inside_steps rest.0 next rest.1) rest.2 used trail)

  pub trail_shortest : (used : List Used) (place from : ℕ) → slice_get keys place ≡ Some from → IsTrail steps place 0 used → IsShortest sides from to used
  trail_shortest used place from at trail other way =
      let found = no_longer other from way in
      found.2 used (subst (λ k. IsTrail steps k 0 used) (h.one_place place found.0 from at found.1) trail)
