-- The steps on the table keep the good states.
use Rattle.std.specs.Bool.{MatchBool}
use Rattle.std.proofs.Common.{◌≡◌, ◌≢◌, ℕ, zero, suc, ◌+◌, ◌-◌, ◌^◌, ◌<◌, ◌≤◌, ◌⊎◌, inl, inr, eqb, Bool, List, [], ◌∷◌, length, map}
use Rattle.std.proofs.Common.{get_or, set, length-set, Contains, Any, sum_by, refl, ap, sym, ◌∙◌, subst, arith, below_more, ◌*◌, get_or-set_same}
use Rattle.std.proofs.Common.{get_or-set_other}
use mathlib.Core.Option.{none, some, some-injective, some-ne-none}
use lib.ListN.{get_elem?}
use prog.Atomic.{either}
use Rattle.std.proofs.lemmas.Bool.{cases_eq, eq-eqb, ne_eqb}
use Rattle.std.proofs.lemmas.List.{set-get_or, map-set}
use Rattle.std.proofs.lemmas.List.Sums.{sum_by-set}
use Rattle.std.proofs.lemmas.List.Elements.{All-set, All-weaker, All-contains}
use Rattle.std.proofs.lemmas.List.Quantifiers.{any-set}
use Rattle.atomic_table.specs.Table as Atomic
use Rattle.atomic_table.proofs.Lists.{at_map, exchanged}
use Rattle.pair_pool.specs.declared.holder.Holder.{Holder}
use Rattle.pair_pool.specs.Views.{Cell, PassView, IsListed}
use Rattle.pair_pool.specs.Words.{cell_word, probe_start, probe_place, IsCell, IsOther, IsProbed}
use Rattle.pair_pool.specs.GoodStates.{AreGoodWords, IsReference, TellsTruth, IsSpentIfShareless, IsGood}
use Rattle.pair_pool.specs.Holders.{view_of, IsListedPart, cell_of, after_empty, after_other, after_here, after_place, HasSeenOthers}
use Rattle.pair_pool.specs.Sharing.{TableState, Me, state_of, IsShared, IsInGood, Probed, Placed, probed, placing, Finds, Passes, MayLook}
use Rattle.pair_pool.specs.Sharing.{Sought, IsSeeking}
use Rattle.pair_pool.proofs.ProbeLemmas.{mod_next, mod_round}
use Rattle.pair_pool.proofs.WordLemmas.{same_parts, word_of-nonzero}
use Rattle.pair_pool.proofs.TableLemmas.{cell_occupied, keeps_cell, old_or_new, new_cell, IsTable-set, not_there, reference_fits}
use Rattle.pair_pool.proofs.PassLemmas.{Contains-cons, Contains-head, Contains-cons_cases}

-- ---- lists

pub at_inside : {X : Type 0} → (xs : List X) (i : ℕ) (x : X) → get_elem? xs i ≡ some x → i < length xs
at_inside [] i x e = absurd (some-ne-none x (sym e))
at_inside (y ∷ ys) zero x e = omega arith
at_inside (y ∷ ys) (suc i) x e = let h = at_inside ys i x e in omega arith

pub at_read : {X : Type 0} → (xs : List X) (i : ℕ) (x d : X) → get_elem? xs i ≡ some x → get_or xs i d ≡ x
at_read [] i x d e = absurd (some-ne-none x (sym e))
at_read (y ∷ ys) zero x d e = some-injective y x e
at_read (y ∷ ys) (suc i) x d e = at_read ys i x d e

pub at_contains : {X : Type 0} → (xs : List X) (i : ℕ) (x : X) → get_elem? xs i ≡ some x → Contains xs x
at_contains xs i x e = (i, at_inside xs i x e, at_read xs i x x e)

pub set_contains : {X : Type 0} → (xs : List X) (i : ℕ) (x : X) → i < length xs → Contains (set xs i x) x
set_contains xs i x h = (i, rw (length-set xs i x) h, get_or-set_same xs i x x h)

-- a listed cell, and what is listed of a list with one cell more
pub listed_here : (cells : List Cell) (place a b : ℕ) → IsListed (cell_of place a b ∷ cells) (2 ^ 30 + place) a b
unfolding IsListed
listed_here cells place a b = Contains-head (cell_of place a b) cells

pub listed_more : (cells : List Cell) (c : Cell) (r a b : ℕ) → IsListed cells r a b → IsListed (c ∷ cells) r a b
unfolding IsListed
listed_more cells c r a b h = Contains-cons c cells _ h

pub listed_cases :
    (cells : List Cell) (place a b r c d : ℕ) → IsListed (cell_of place a b ∷ cells) r c d →
    IsListed cells r c d ⊎ ((r ≡ 2 ^ 30 + place) × (c ≡ a) × (d ≡ b))
unfolding IsListed
listed_cases cells place a b r c d h = go (Contains-cons_cases (cell_of place a b) cells _ h)
  where
    go :
        Contains cells (record { reference = r; first = c; second = d }) ⊎ (cell_of place a b ≡ record { reference = r; first = c; second = d }) →
        Contains cells (record { reference = r; first = c; second = d }) ⊎ ((r ≡ 2 ^ 30 + place) × (c ≡ a) × (d ≡ b))
    go (inl was) = inl was
    go (inr is) = inr (sym (ap (λ (x : Cell). x.reference) is), sym (ap (λ (x : Cell). x.first) is), sym (ap (λ (x : Cell). x.second) is))

pub part_more : (cells : List Cell) (c : Cell) (r : ℕ) → IsListedPart cells r → IsListedPart (c ∷ cells) r
part_more cells c r (inl low) = inl low
part_more cells c r (inr (a, b, h)) = inr (a, b, listed_more cells c r a b h)

-- ---- one pass changes, and perhaps one word

module _ (old new : List ℕ) (keeps : (r a b : ℕ) → IsCell old r a b → IsCell new r a b) (long : length new ≡ length old) where
  pub truth_stays : (pass : PassView) → TellsTruth old pass → TellsTruth new pass
  truth_stays pass h = record {
    places = h.places ∙ sym long;
    seen = λ r a b g. keeps r a b (h.seen r a b g);
    known = h.known;
    placed = h.placed;
    first_part = h.first_part;
    second_part = h.second_part;
  }

  pub one_changes :
      (passes : List PassView) (id : ℕ) (p q : PassView) → IsGood (record { words = old; passes = passes }) →
      AreGoodWords new → ((r a b : ℕ) → IsCell new r a b → IsCell old r a b ⊎ IsListed q.placed r a b) →
      get_elem? passes id ≡ some p → TellsTruth new q → q.shares ≡ p.shares → 0 < p.shares →
      ((r a b : ℕ) → IsListed p.placed r a b → IsListed q.placed r a b) →
      IsGood (record { words = new; passes = set passes id q })
  one_changes passes id p q good table only at truth shares share placed = record {
    table = table;
    passes = All-set (TellsTruth new) passes id q truth (All-weaker (TellsTruth old) (TellsTruth new) truth_stays passes good.passes);
    filled = λ r a b h. filled r a b (only r a b h);
    total =
        let sums = sum_by-set (λ (x : PassView). x.shares) passes id q p inside in
        let read : (get_or passes id p).shares ≡ p.shares = ap (λ (x : PassView). x.shares) (at_read passes id p p at) in
        let all : sum_by (λ (x : PassView). x.shares) passes ≡ 65 = good.total in omega arith;
    spent = All-set IsSpentIfShareless passes id q (λ none. absurd (omega arith)) good.spent;
  }
    where
      inside : id < length passes
      inside = at_inside passes id p at

      among : (r a b j : ℕ) (other : PassView) → j < length passes → get_or passes j other ≡ other → IsListed other.placed r a b → (j ≡ id) ⊎
          (j ≡ id → ⊥) → Any (λ pass. IsListed pass.placed r a b) (set passes id q)
      among r a b j other below is listed (inl same) =
          let one : other ≡ p = sym is ∙ ap (λ k. get_or passes k other) same ∙ at_read passes id p other at in
          any-set (λ pass. IsListed pass.placed r a b) passes id q inside (placed r a b (subst (λ (x : PassView). IsListed x.placed r a b) one listed))
      among r a b j other below is listed (inr differs) =
          (j, other, rw (length-set passes id q) below, get_or-set_other passes id j q other differs ∙ is, listed)

      filled : (r a b : ℕ) → IsCell old r a b ⊎ IsListed q.placed r a b → Any (λ pass. IsListed pass.placed r a b) (set passes id q)
      filled r a b (inl was) = let h = good.filled r a b was in among r a b h.0 h.1 h.2 h.3 h.4 (cases_eq h.0 id)
      filled r a b (inr own) = any-set (λ pass. IsListed pass.placed r a b) passes id q inside own

-- ---- a step on the table

module _ (s : TableState) (good : IsShared s) (id : ℕ) (h : Holder) (at : get_elem? s.views id ≡ some h) (share : 0 < h.shares) where
  pub passes_at : get_elem? (map view_of s.views) id ≡ some (view_of h)
  passes_at = at_map view_of s.views id h at

  pub own_truth : TellsTruth s.words (view_of h)
  own_truth = All-contains (TellsTruth s.words) (map view_of s.views) (view_of h) good.passes (at_contains (map view_of s.views) id (view_of h) passes_at)

  -- the words stay, and the view becomes w
  pub stays_good :
      (i : ℕ) (w : Holder) → TellsTruth s.words (view_of w) → w.shares ≡ h.shares → w.placed ≡ h.placed →
      IsShared (Atomic.stepped s i (get_or s.words i 0) id [] w Atomic.keeps)
  stays_good i w truth shares placed =
      rw (set-get_or s.words i 0, map-set view_of s.views id w)
      (one_changes s.words s.words (λ r a b g. g) refl (map view_of s.views) id (view_of h) (view_of w) good good.table (λ r a b g. inl g) passes_at
      truth shares share (λ r a b g. rw placed g))

  pub in_good :
      (i n : ℕ) (w : Holder) → IsShared (Atomic.stepped s i n id [] w Atomic.keeps) → IsInGood (view_of w)
  in_good i n w g = record {
    state = state_of (Atomic.stepped s i n id [] w Atomic.keeps);
    good = g;
    among =
        let inside : id < length (map view_of s.views) = at_inside (map view_of s.views) id (view_of h) passes_at in
        rw (map-set view_of s.views id w) (set_contains (map view_of s.views) id (view_of w) inside);
  }

  pub empty_truth : TellsTruth s.words (view_of (after_empty h))
  empty_truth =
      let truth = own_truth in
      record {
        places = truth.places;
        seen = truth.seen;
        known = truth.known;
        placed = truth.placed;
        first_part = truth.first_part;
        second_part =
            truth.second_part;
      }

  pub other_truth : (place c d : ℕ) → IsCell s.words (2 ^ 30 + place) c d → TellsTruth s.words (view_of (after_other place c d h))
  other_truth place c d is =
      let truth = own_truth in
      record {
        places = truth.places;
        seen = λ r x y g. one r x y (listed_cases h.seen place c d r x y g);
        known = λ r x y g. listed_more h.seen (cell_of place c d) r x y (truth.known r x y g);
        placed = truth.placed;
        first_part = truth.first_part;
        second_part = truth.second_part;
      }
    where
      one : (r x y : ℕ) → IsListed h.seen r x y ⊎ ((r ≡ 2 ^ 30 + place) × (x ≡ c) × (y ≡ d)) → IsCell s.words r x y
      one r x y (inl was) = own_truth.seen r x y was
      one r x y (inr (e, f, g)) = rw (e, f, g) is

  module _ (place a b : ℕ) (first : IsListedPart h.known a) (second : IsListedPart h.known b) where
    part_of : (r c d : ℕ) → IsListed h.known r c d ⊎ ((r ≡ 2 ^ 30 + place) × (c ≡ a) × (d ≡ b)) → IsListedPart (cell_of place a b ∷ h.known) c ×
        IsListedPart (cell_of place a b ∷ h.known) d
    part_of r c d (inl was) = (
      part_more h.known (cell_of place a b) c (own_truth.first_part r c d was),
      part_more h.known (cell_of place a b) d (own_truth.second_part r c d was),
    )
    part_of r c d (inr (_, f, g)) = rw (f, g) (part_more h.known (cell_of place a b) a first, part_more h.known (cell_of place a b) b second)

    seen_of : (words : List ℕ) → ((r c d : ℕ) → IsListed h.seen r c d → IsCell words r c d) → IsCell words (2 ^ 30 + place) a b → (r c d : ℕ) →
        IsListed (cell_of place a b ∷ h.seen) r c d → IsCell words r c d
    seen_of words old is r c d g = go (listed_cases h.seen place a b r c d g)
      where
        go : IsListed h.seen r c d ⊎ ((r ≡ 2 ^ 30 + place) × (c ≡ a) × (d ≡ b)) → IsCell words r c d
        go (inl was) = old r c d was
        go (inr (e, f, k)) = rw (e, f, k) is

    both_more : (xs ys : List Cell) → ((r c d : ℕ) → IsListed xs r c d → IsListed ys r c d) → (r c d : ℕ) → IsListed (cell_of place a b ∷ xs) r c d →
        IsListed (cell_of place a b ∷ ys) r c d
    both_more xs ys more r c d g = go (listed_cases xs place a b r c d g)
      where
        go : IsListed xs r c d ⊎ ((r ≡ 2 ^ 30 + place) × (c ≡ a) × (d ≡ b)) → IsListed (cell_of place a b ∷ ys) r c d
        go (inl was) = listed_more ys (cell_of place a b) r c d (more r c d was)
        go (inr (e, f, k)) = rw (e, f, k) (listed_here ys place a b)

    pub here_truth : IsCell s.words (2 ^ 30 + place) a b → TellsTruth s.words (view_of (after_here place a b h))
    here_truth is = record {
      places = own_truth.places;
      seen = seen_of s.words own_truth.seen is;
      known = both_more h.known h.seen own_truth.known;
      placed = λ r c d g. listed_more h.known (cell_of place a b) r c d (own_truth.placed r c d g);
      first_part = λ r c d g. (part_of r c d (listed_cases h.known place a b r c d g)).0;
      second_part = λ r c d g. (part_of r c d (listed_cases h.known place a b r c d g)).1;
    }

    pub places_are : h.places ≡ length s.words
    places_are = own_truth.places

    pub reference_of : (r : ℕ) → IsListedPart h.known r → IsReference s.words r
    reference_of r (inl low) = inl low
    reference_of r (inr (c, d, g)) = inr (c, d, own_truth.seen r c d (own_truth.known r c d g))

    first_reference : IsReference s.words a
    first_reference = reference_of a first

    second_reference : IsReference s.words b
    second_reference = reference_of b second

    pub fits_first : a < 2 ^ 31
    fits_first = reference_fits s.words good.table a first_reference

    pub fits_second : b < 2 ^ 31
    fits_second = reference_fits s.words good.table b second_reference

    -- ---- the word at a free place that the probe comes to becomes the cell

    module _ (free : get_or s.words place 0 ≡ 0) (inside : place < h.places)
        (steps : ℕ) (within : steps < h.places) (there : place ≡ probe_place h.places (probe_start h.places a b) steps)
        (passed : HasSeenOthers h a b steps) where
      other_at : (k : ℕ) (c d : ℕ) → IsCell s.words (2 ^ 30 + k) c d → (c ≢ a) ⊎ (d ≢ b) → IsOther s.words (cell_word a b) k
      other_at k c d is differs = record {
        occupied = rw back at (cell_occupied s.words (2 ^ 30 + k) c d is);
        differs = λ same. unlike differs (same_parts c d a b is.first_fits is.second_fits fits_first fits_second (sym (rw back at is.spelled) ∙ same));
      }
        where
          back : 2 ^ 30 + k - 2 ^ 30 ≡ k
          back = omega arith

          unlike : (c ≢ a) ⊎ (d ≢ b) → (c ≡ a) × (d ≡ b) → ⊥
          unlike (inl not) both = not both.0
          unlike (inr not) both = not both.1

      reached : IsProbed s.words (probe_start (length s.words) a b) (cell_word a b) place
      reached = rw (← places_are) (record {
        steps = steps;
        within = rw (← places_are) within;
        there = rw (← places_are) there;
        passed = λ k below. rw (← places_are) (let g = passed k below in other_at _ g.0 g.1 (own_truth.seen _ g.0 g.1 g.2) g.3);
      })

      inside_words : place < length s.words
      inside_words = rw (← places_are) inside

      abbrev written : List ℕ
      written = set s.words place (cell_word a b)

      table_after : AreGoodWords written
      table_after = IsTable-set s.words good.table a b place first_reference second_reference inside_words free reached

      keeps_cells : (r c d : ℕ) → IsCell s.words r c d → IsCell written r c d
      keeps_cells = keeps_cell s.words a b place fits_first fits_second inside_words free

      is_there : IsCell written (2 ^ 30 + place) a b
      is_there = new_cell s.words a b place fits_first fits_second inside_words free

      place_truth : TellsTruth written (view_of (after_place place a b h))
      place_truth = record {
        places = own_truth.places ∙ sym (length-set s.words place (cell_word a b));
        seen = seen_of written (λ r c d g. keeps_cells r c d (own_truth.seen r c d g)) is_there;
        known = both_more h.known h.seen own_truth.known;
        placed = both_more h.placed h.known own_truth.placed;
        first_part = λ r c d g. (part_of r c d (listed_cases h.known place a b r c d g)).0;
        second_part = λ r c d g. (part_of r c d (listed_cases h.known place a b r c d g)).1;
      }

      only_new : (r c d : ℕ) → IsCell written r c d → IsCell s.words r c d ⊎ IsListed (cell_of place a b ∷ h.placed) r c d
      only_new r c d is = go (old_or_new s.words a b place fits_first fits_second inside_words free r c d is)
        where
          go : IsCell s.words r c d ⊎ ((r ≡ 2 ^ 30 + place) × (cell_word c d ≡ cell_word a b)) → IsCell s.words r c d ⊎
              IsListed (cell_of place a b ∷ h.placed) r c d
          go (inl was) = inl was
          go (inr (e, same)) = let parts = same_parts c d a b is.first_fits is.second_fits fits_first fits_second same in
              inr (rw (e, parts.0, parts.1) (listed_here h.placed place a b))

      pub placed_good : IsShared (Atomic.stepped s place (cell_word a b) id [] (after_place place a b h) Atomic.keeps)
      placed_good =
          rw (map-set view_of s.views id (after_place place a b h))
          (one_changes s.words written keeps_cells (length-set s.words place (cell_word a b)) (map view_of s.views) id (view_of h)
          (view_of (after_place place a b h)) good table_after only_new passes_at place_truth refl share
          (λ r c d g. listed_more h.placed (cell_of place a b) r c d g))

      pub was_nowhere : (r : ℕ) → IsListed h.seen r a b → ⊥
      was_nowhere r g = not_there s.words good.table a b place reached free r (own_truth.seen r a b g)

-- ---- what the steps ask

module _ (slots id place a b : ℕ) (me : Me) (share : 0 < me.0.shares) (inside : place < me.0.places)
    (first : IsListedPart me.0.known a) (second : IsListedPart me.0.known b) where
  record Looks (s : TableState) (n : ℕ) : Type 0 where
    view : Holder
    keeps : IsShared (Atomic.stepped s place n id me.1 view Atomic.keeps)
    tells : Probed a b place me n (view, me.1)

  looks : (s : TableState) → IsShared s → get_elem? s.views id ≡ some me.0 → Looks s (get_or s.words place 0)
  looks s good at = by_word (cases_eq (get_or s.words place 0) 0)
    where
      inside_words : place < length s.words
      inside_words = let e : me.0.places ≡ length s.words = (own_truth s good id me.0 at share).places in omega arith

      kept : (w : Holder) → TellsTruth s.words (view_of w) → w.shares ≡ me.0.shares → w.placed ≡ me.0.placed →
          IsShared (Atomic.stepped s place (get_or s.words place 0) id me.1 w Atomic.keeps)
      kept w truth shares placed = stays_good s good id me.0 at share place w truth shares placed

      back : 2 ^ 30 + place - 2 ^ 30 ≡ place
      back = omega arith

      spells : (c d : ℕ) → IsCell s.words (2 ^ 30 + place) c d → get_or s.words place 0 ≡ cell_word c d
      spells c d is = rw back at is.spelled

      wanted : (c d : ℕ) → IsCell s.words (2 ^ 30 + place) c d → get_or s.words place 0 ≡ cell_word a b → (c ≡ a) × (d ≡ b)
      wanted c d is e = same_parts c d a b is.first_fits is.second_fits (fits_first s good id me.0 at share place a b first second)
          (fits_second s good id me.0 at share place a b first second) (sym (spells c d is) ∙ e)

      by_cell : (get_or s.words place 0 ≡ 0 → ⊥) → (c d : ℕ) → IsCell s.words (2 ^ 30 + place) c d → (get_or s.words place 0 ≡ cell_word a b) ⊎
          (get_or s.words place 0 ≡ cell_word a b → ⊥) → Looks s (get_or s.words place 0)
      by_cell full c d is (inl e) =
          let same = wanted c d is e in
          let own : IsCell s.words (2 ^ 30 + place) a b = rw (same.0, same.1) at is in
          let w = after_here place a b me.0 in
          let k = kept w (here_truth s good id me.0 at share place a b first second own) refl refl in
          record {
            view = w;
            keeps = k;
            tells = record {
              slots = refl;
              good = in_good s good id me.0 at share place (get_or s.words place 0) w k;
              empty = λ none. absurd (full none);
              here = λ _. refl;
              other = λ _ differs. absurd (differs e);
            };
          }
      by_cell full c d is (inr differs) =
          let w = after_other place c d me.0 in
          let k = kept w (other_truth s good id me.0 at share place c d is) refl refl in
          record {
            view = w;
            keeps = k;
            tells = record {
              slots = refl;
              good = in_good s good id me.0 at share place (get_or s.words place 0) w k;
              empty = λ none. absurd (full none);
              here = λ e. absurd (differs e);
              other = λ _ _. record { first = c; second = d; differs = unlike (cases_eq c a) (cases_eq d b); view = refl };
            };
          }
        where
          unlike : (c ≡ a) ⊎ (c ≡ a → ⊥) → (d ≡ b) ⊎ (d ≡ b → ⊥) → (c ≢ a) ⊎ (d ≢ b)
          unlike (inr not) _ = inl not
          unlike (inl _) (inr not) = inr not
          unlike (inl e) (inl f) = absurd (differs (spells c d is ∙ rw (e, f) refl))

      by_spelled : (get_or s.words place 0 ≡ 0 → ⊥) → (get_or s.words place 0 ≡ 0) ⊎ ((c : ℕ) × (d : ℕ) × IsCell s.words (2 ^ 30 + place) c d) →
          Looks s (get_or s.words place 0)
      by_spelled full (inl empty) = absurd (full empty)
      by_spelled full (inr (c, d, is)) = by_cell full c d is (cases_eq (get_or s.words place 0) (cell_word a b))

      by_word : (get_or s.words place 0 ≡ 0) ⊎ (get_or s.words place 0 ≡ 0 → ⊥) → Looks s (get_or s.words place 0)
      by_word (inl nothing) =
          let w = after_empty me.0 in
          let k = kept w (empty_truth s good id me.0 at share) refl refl in
          record {
            view = w;
            keeps = k;
            tells = record {
              slots = refl;
              good = in_good s good id me.0 at share place (get_or s.words place 0) w k;
              empty = λ _. refl;
              here = λ e. absurd (word_of-nonzero a b (sym e ∙ nothing));
              other = λ full _. absurd (full nothing);
            };
          }
      by_word (inr full) = by_spelled full (good.table.spelled place inside_words)

  pub probes : Atomic.Allows IsShared slots id me place (λ n. n) (probed a b (Atomic.step slots place 0 0 none) me)
  probes s good _ at _ = let l = looks s good at in (l.view, Atomic.keeps, tt, l.keeps, l.tells)

  pub places :
      (steps word : ℕ) → steps < me.0.places → place ≡ probe_place me.0.places (probe_start me.0.places a b) steps →
      HasSeenOthers me.0 a b steps → word ≡ cell_word a b →
      Atomic.Allows IsShared slots id me place (λ n. either (eqb n 0) word n) (placing a b (Atomic.step slots place 0 word none) me)
  places steps word within there passed is s good _ at _ =
      exchanged (get_or s.words place 0) 0 word
      (λ n. (w : Holder) × (x : Atomic.Act (Unit {0})) × Atomic.Valid s.homes me.1 x × IsShared (Atomic.stepped s place n id me.1 w x) ×
      placing a b (Atomic.step slots place 0 word none) me (get_or s.words place 0) (w, Atomic.carried_after me.1 x))
      hit miss
    where
      hit : get_or s.words place 0 ≡ 0 → (w : Holder) × (x : Atomic.Act (Unit {0})) × Atomic.Valid s.homes me.1 x ×
          IsShared (Atomic.stepped s place word id me.1 w x) ×
          placing a b (Atomic.step slots place 0 word none) me (get_or s.words place 0) (w, Atomic.carried_after me.1 x)
      hit free =
          let w = after_place place a b me.0 in
          let k : IsShared (Atomic.stepped s place (cell_word a b) id me.1 w Atomic.keeps) =
          placed_good s good id me.0 at share place a b first second free inside steps within there passed in (
            w,
            Atomic.keeps,
            tt,
            rw is k,
            (
              (λ _. record {
                slots = refl;
                good = in_good s good id me.0 at share place (cell_word a b) w k;
                view = refl;
                was_nowhere =
                    was_nowhere s good id me.0 at share place a b first second free inside steps within there passed;
              }),
              (λ full. absurd (full free)),
            ),
          )

      miss : get_or s.words place 0 ≢ 0 → (w : Holder) × (x : Atomic.Act (Unit {0})) × Atomic.Valid s.homes me.1 x ×
          IsShared (Atomic.stepped s place (get_or s.words place 0) id me.1 w x) ×
          placing a b (Atomic.step slots place 0 word none) me (get_or s.words place 0) (w, Atomic.carried_after me.1 x)
      miss full = let l = looks s good at in (l.view, Atomic.keeps, tt, l.keeps, ((λ free. absurd (full free)), λ _. l.tells))

-- ---- one look at a place

module _ (a b place : ℕ) where
  -- after a step that found the place empty, what is found is found in two steps
  pub finds_later : (old mid new : Holder) → mid ≡ after_empty old → Finds a b place 1 mid new → Finds a b place 2 old new
  finds_later old mid new e h = go (rw e at h)
    where
      go : Finds a b place 1 (after_empty old) new → Finds a b place 2 old new
      go g = record {
        places = g.places;
        shares = g.shares;
        steps = let n : new.steps ≤ old.steps + 1 + 1 = g.steps in omega arith;
        seen = g.seen;
        known = g.known;
        placed = g.placed;
      }

  pub passes_later : (old mid new : Holder) → mid ≡ after_empty old → Passes a b place 1 mid new → Passes a b place 2 old new
  passes_later old mid new e h = go (rw e at h)
    where
      go : Passes a b place 1 (after_empty old) new → Passes a b place 2 old new
      go g = record {
        places = g.places;
        shares = g.shares;
        steps = let n : new.steps ≤ old.steps + 1 + 1 = g.steps in omega arith;
        sees = g.sees;
        known = g.known;
        placed = g.placed;
        other = g.other;
      }

  pub finds_more : (old new : Holder) → Finds a b place 1 old new → Finds a b place 2 old new
  finds_more old new g = record {
    places = g.places;
    shares = g.shares;
    steps = let n : new.steps ≤ old.steps + 1 = g.steps in omega arith;
    seen =
        g.seen;
    known = g.known;
    placed = g.placed;
  }

  pub passes_more : (old new : Holder) → Passes a b place 1 old new → Passes a b place 2 old new
  passes_more old new g = record {
    places = g.places;
    shares = g.shares;
    steps = let n : new.steps ≤ old.steps + 1 = g.steps in omega arith;
    sees =
        g.sees;
    known = g.known;
    placed = g.placed;
    other = g.other;
  }

  pub finds_probed : (old new : Me) (found : ℕ) → Probed a b place old found new → found ≡ cell_word a b → Finds a b place 1 old.0 new.0
  finds_probed old new found h e = let is = h.here e in rw is
      (record { places = refl; shares = refl; steps = omega arith; seen = refl; known = refl; placed = inl refl })

  pub finds_placed : (old new : Me) → Placed a b place old new → Finds a b place 1 old.0 new.0
  finds_placed old new h =
      rw h.view (record { places = refl; shares = refl; steps = omega arith; seen = refl; known = refl; placed = inr (refl, h.was_nowhere) })

  pub passes_probed : (old new : Me) (found : ℕ) → Probed a b place old found new → found ≢ 0 → found ≢ cell_word a b → Passes a b place 1 old.0 new.0
  passes_probed old new found h full differs =
      let is = h.other full differs in
      rw is.view (record {
        places = refl;
        shares = refl;
        steps = omega arith;
        sees = λ r c d g. listed_more old.0.seen (cell_of place is.first is.second) r c d g;
        known = refl;
        placed = refl;
        other = (is.first, is.second, listed_here old.0.seen place is.first is.second, is.differs);
      })

-- ---- for answers

-- a look that ended with the word `found`
module _ (a b place word : ℕ) (old mid new : Me) (found : ℕ) (spelled : word ≡ cell_word a b) where
  abbrev Ends : Bool → Type 0
  Ends found_it = MatchBool found_it (Finds a b place 2 old.0 new.0) (Passes a b place 2 old.0 new.0)

  by_word : (found ≡ word → Finds a b place 2 old.0 new.0) → (found ≢ word → Passes a b place 2 old.0 new.0) → Ends (eqb found word)
  by_word yes' no' = go (cases_eq found word)
    where
      go : (found ≡ word) ⊎ (found ≡ word → ⊥) → Ends (eqb found word)
      go (inl e) = subst Ends (sym (eq-eqb found word e)) (yes' e)
      go (inr e) = subst Ends (sym (ne_eqb found word e)) (no' e)

  pub looked_twice : Probed a b place old 0 mid → placing a b (Atomic.step 0 place 0 word none) mid found new → found ≢ 0 → Ends (eqb found word)
  looked_twice first h full = by_word
      (λ e. finds_later a b place old.0 mid.0 new.0 (first.empty refl) (finds_probed a b place mid new found (h.1 full) (e ∙ spelled)))
      (λ e. passes_later a b place old.0 mid.0 new.0 (first.empty refl) (passes_probed a b place mid new found (h.1 full) full (λ is. e (is ∙ sym spelled))))

-- a step that found a place empty leaves the pass as it was, but for the count
pub empty_may : (a b place word : ℕ) (old mid : Holder) → mid ≡ after_empty old → 0 < old.shares → MayLook a b place word old → (0 < mid.shares) ×
    MayLook a b place word mid
empty_may a b place word old mid e share may = rw e (
  share,
  record {
    inside = may.inside;
    first = may.first;
    second = may.second;
    spelled = may.spelled;
    steps = may.steps;
    within = may.within;
    there = may.there;
    others = may.others;
  },
)

-- ---- the whole probe

module _ (a b : ℕ) (old mid new : Holder) (at turns : ℕ) (h : IsSeeking a b old at turns mid) where
  pub sought_there : turns < old.places → Finds a b at 2 mid new → Sought a b at old new
  sought_there within f = record {
    seeks = record {
      places = f.places ∙ h.places;
      shares = f.shares ∙ h.shares;
      steps = let m : mid.steps ≤ old.steps + 2 * turns = h.steps in let n : new.steps ≤ mid.steps + 2 = f.steps in omega arith;
      sees = λ r c d g. rw f.seen (listed_more mid.seen (cell_of at a b) r c d (h.sees r c d g));
    };
    known = f.known ∙ ap (λ (l : List Cell). cell_of at a b ∷ l) h.known;
    placed = go f.placed;
  }
    where
      go : (new.placed ≡ mid.placed) ⊎ ((new.placed ≡ cell_of at a b ∷ mid.placed) × ((r : ℕ) → IsListed mid.seen r a b → ⊥)) →
          (new.placed ≡ old.placed) ⊎ ((new.placed ≡ cell_of at a b ∷ old.placed) × ((r : ℕ) → IsListed old.seen r a b → ⊥))
      go (inl e) = inl (e ∙ h.placed)
      go (inr (e, nowhere)) = inr (e ∙ ap (λ (l : List Cell). cell_of at a b ∷ l) h.placed, λ r g. nowhere r (h.sees r a b g))

  module _ (p : Passes a b at 2 mid new) where
    places_same : new.places ≡ mid.places
    places_same = p.places

    others_more : HasSeenOthers new a b (turns + 1)
    others_more = below_more (λ k. (c : ℕ) × (d : ℕ) × IsListed new.seen (2 ^ 30 + probe_place new.places (probe_start new.places a b) k) c d ×
        ((c ≢ a) ⊎ (d ≢ b))) turns
        (λ k below. let g = h.others k below in rw (p.places) (g.0, g.1, p.sees _ g.0 g.1 g.2, g.3))
        (rw (p.places ∙ h.places, ← h.there) p.other)

    seeking_next : (next : ℕ) → next < old.places → next ≡ probe_place old.places (probe_start old.places a b) (turns + 1) →
        IsSeeking a b old next (turns + 1) new
    seeking_next next inside there = record {
      inside = inside;
      there = there;
      places = p.places ∙ h.places;
      shares = p.shares ∙ h.shares;
      steps = let m : mid.steps ≤ old.steps + 2 * turns = h.steps in let n : new.steps ≤ mid.steps + 2 = p.steps in omega arith;
      sees = λ r c d g. p.sees r c d (h.sees r c d g);
      known = p.known ∙ h.known;
      placed = p.placed ∙ h.placed;
      others = others_more;
    }

    pub seeking_on : (at + 1 ≡ old.places → ⊥) → IsSeeking a b old (at + 1) (turns + 1) new
    seeking_on more =
        let inside : at < old.places = h.inside in
        let below : at + 1 < old.places = omega arith in
        let start : ℕ = probe_start old.places a b in
        let e : start + (turns + 1) ≡ start + turns + 1 = omega arith in
        seeking_next (at + 1) below (rw e (sym (mod_next (start + turns) old.places at h.there below)))

    pub seeking_round : at + 1 ≡ old.places → IsSeeking a b old 0 (turns + 1) new
    seeking_round last =
        let some' : 0 < old.places = omega arith in
        let start : ℕ = probe_start old.places a b in
        let e : start + (turns + 1) ≡ start + turns + 1 = omega arith in
        seeking_next 0 some' (rw e (sym (mod_round (start + turns) old.places at some' h.there last)))
