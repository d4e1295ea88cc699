-- The events in a shared pool keep the good states, and what passes know.
use Rattle.std.proofs.Common.{◌≡◌, ◌≢◌, ℕ, zero, suc, ◌+◌, ◌^◌, ◌<◌, ◌≤◌, ◌⊎◌, inl, inr, List, [], ◌∷◌, ◌++◌, length, map, get_or, set, replicate}
use Rattle.std.proofs.Common.{length-set, Contains, sum_by, slice_get, Some, ◌↔◌, refl, ap, sym, ◌∙◌, arith, get_or-set_same, get_or-set_other}
use mathlib.Core.Option.{some}
use lib.ListN.{get_elem?}
use Rattle.std.proofs.lemmas.Bool.{cases_eq, eq-eqb, ne_eqb}
use Rattle.std.proofs.Math.Nat.{pow-le-pow_right}
use Rattle.std.proofs.lemmas.List.{set-get_or, length-replicate, length-append, get_or_append_left}
use Rattle.std.proofs.lemmas.List.Sums.{sum_by-set, sum_by-append}
use Rattle.std.proofs.lemmas.Option.{slice_get_within, slice_get_read, get_or_from_slice_get}
use Rattle.atomic_table.proofs.Lists.{at_map, set_else}
use Rattle.pair_pool.specs.declared.holder.Holder.{Holder}
use Rattle.pair_pool.specs.Trees.{Tree}
use Rattle.pair_pool.specs.Views.{IsListed, Knows, Grows}
use Rattle.pair_pool.specs.GoodStates.{TellsTruth, AreGoodWords, IsGood}
use Rattle.pair_pool.specs.OnlyPass.{only_holder}
use Rattle.pair_pool.specs.Holders.{view_of, first_holder, cell_of, after_empty, after_other, after_here, after_place, left_half, right_half, both_of, spent_holder}
use Rattle.pair_pool.specs.Sharing.{TableState}
use Rattle.pair_pool.specs.Events.{World, Event, probe, fill, look, halve, unite, state_of_world, opening_world, IsAtWork, Learns, Unites, Happens}
use Rattle.pair_pool.specs.Events.{shared_world, IsOpening, Lead, heir_after, heir, steps_made}
use Rattle.pair_pool.proofs.PassLemmas.{grows_from_cells, cells_of-empty}
use Rattle.pair_pool.proofs.TableLemmas.{IsTable-empty}
use Rattle.pair_pool.proofs.StateLemmas.{only_state_good, one_address}
use Rattle.pair_pool.proofs.SharedLemmas.{at_contains, listed_more, own_truth, empty_truth, other_truth, here_truth, stays_good, placed_good}
use Rattle.pair_pool.proofs.SharingLemmas.{listed_left, listed_right, splits, joins}

-- ---- lists

elem_read : {X : Type 0} → (xs : List X) (i : ℕ) (x : X) → i < length xs → get_or xs i x ≡ x → get_elem? xs i ≡ some x
elem_read [] i x below e = absurd (omega arith)
elem_read (y ∷ ys) zero x below e = ap some e
elem_read (y ∷ ys) (suc i) x below e = elem_read ys i x (omega arith) e

elem_there : {X : Type 0} → (xs : List X) (i : ℕ) (x : X) → slice_get xs i ≡ Some x → get_elem? xs i ≡ some x
elem_there xs i x e = elem_read xs i x (slice_get_within xs i x e) (get_or_from_slice_get xs i x x e)

there_after : {X : Type 0} → (xs : List X) (i : ℕ) (x y : X) → slice_get xs i ≡ Some x → slice_get (set xs i y) i ≡ Some y
there_after xs i x y e =
    let below = slice_get_within xs i x e in
    slice_get_read (set xs i y) (length (set xs i y)) i y refl (rw (length-set xs i y) below) (sym (get_or-set_same xs i y y below))

there_still : {X : Type 0} → (xs : List X) (i j : ℕ) (x y : X) → j ≢ i → slice_get xs j ≡ Some x → slice_get (set xs i y) j ≡ Some x
there_still xs i j x y apart e =
    let below = slice_get_within xs j x e in
    slice_get_read (set xs i y) (length (set xs i y)) j x refl (rw (length-set xs i y) below)
    (sym (get_or-set_other xs i j y x apart ∙ get_or_from_slice_get xs j x x e))

there_before : {X : Type 0} → (xs ys : List X) (i : ℕ) (x : X) → slice_get xs i ≡ Some x → slice_get (xs ++ ys) i ≡ Some x
there_before xs ys i x e =
    let below = slice_get_within xs i x e in
    slice_get_read (xs ++ ys) (length (xs ++ ys)) i x refl (rw (length-append xs ys) (omega arith))
    (sym (get_or_append_left xs ys x i below ∙ get_or_from_slice_get xs i x x e))

-- ---- good states

-- a world as the state of a table without slots
abbrev table_of : World → TableState
table_of w = record { words = w.words; homes = []; views = w.passes }

-- a pool without a cell is one of empty words
empty_holder : (n : ℕ) → first_holder n ≡ only_holder (replicate n 0)
empty_holder n = rw (length-replicate {A = ℕ} n 0, cells_of-empty n) refl

pub new_opens : (bits : ℕ) → 12 ≤ bits → bits ≤ 26 → IsOpening (opening_world bits)
new_opens bits least most = record {
  words = replicate (2 ^ bits) 0;
  good =
      IsTable-empty (2 ^ bits) (pow-le-pow_right {n = 2} (omega arith) least)
      (pow-le-pow_right {n = 2} (omega arith) most);
  is = ap (λ (h : Holder). record { words = replicate (2 ^ bits) 0; passes = h ∷ [] }) (empty_holder (2 ^ bits));
}

pub shared_opens : (words : List ℕ) → AreGoodWords words → IsOpening (shared_world words)
shared_opens words good = record { words = words; good = good; is = refl }

opens_good : (w : World) → IsOpening w → IsGood (state_of_world w)
opens_good w opens = rw opens.is (only_state_good opens.words opens.good)

module _ (w : World) (good : IsGood (state_of_world w)) (i : ℕ) (h : Holder) (at_work : IsAtWork w i h) where
  at : get_elem? w.passes i ≡ some h
  at = elem_there w.passes i h at_work.is

  view_changes :
      (place : ℕ) (after : Holder) → TellsTruth w.words (view_of after) → after.shares ≡ h.shares → after.placed ≡ h.placed →
      IsGood (state_of_world (record { words = w.words; passes = set w.passes i after }))
  view_changes place after truth shares placed =
      rw (set-get_or w.words place 0) at (stays_good (table_of w) good i h at at_work.some place after truth shares placed)

  look_good : IsGood (state_of_world (record { words = w.words; passes = set w.passes i (after_empty h) }))
  look_good = view_changes 0 (after_empty h) (empty_truth (table_of w) good i h at at_work.some) refl refl

  probe_good :
      (place a b : ℕ) (after : Holder) → Learns w.words place a b h after →
      IsGood (state_of_world (record { words = w.words; passes = set w.passes i after }))
  probe_good place a b after (inl (free, is)) = rw is look_good
  probe_good place a b after (inr (inl (c, d, cell, unsought, is))) =
      rw is (view_changes place (after_other place c d h) (other_truth (table_of w) good i h at at_work.some place c d cell) refl refl)
  probe_good place a b after (inr (inr (cell, parts, is))) =
      rw is (view_changes place (after_here place a b h) (here_truth (table_of w) good i h at at_work.some place a b parts.0 parts.1 cell) refl refl)

event_good : (event : Event) (old new : World) → IsGood (state_of_world old) → Happens event old new → IsGood (state_of_world new)
event_good (probe i place a b) old new good h = rw (h.words, h.passes) (probe_good old good i h.pass h.at_work place a b h.after h.learns)
event_good (fill i place a b) old new good h =
    let here = at old good i h.pass h.at_work in
    let truth = own_truth (table_of old) good i h.pass here h.at_work.some in
    let wide : h.pass.places ≡ length old.words = truth.places in
    rw (h.words, h.passes)
    (placed_good (table_of old) good i h.pass here h.at_work.some place a b h.parts.0 h.parts.1 h.free (rw wide h.inside) h.turns h.within h.there h.others)
event_good (look i place) old new good h = rw (h.words, h.passes) (look_good old good i h.pass h.at_work)
event_good (halve i) old new good h =
    rw (h.words, h.passes) (splits i h.pass h.shares (table_of old) good (at old good i h.pass h.at_work))
event_good (unite i j) old new good h =
    rw (h.words, h.passes)
    (joins i j h.pass.places h.pass h.other h.at_work.some refl (table_of old) good (at old good i h.pass h.at_work) h.apart
    (set_else old.passes i j (both_of h.pass h.other) h.apart ∙ at old good j h.other h.other_at_work))

pub lead_good : (events : List Event) (old new : World) → IsGood (state_of_world old) → Lead events old new → IsGood (state_of_world new)
lead_good [] old new good is = rw is good
lead_good (event ∷ events) old new good (middle, h, rest) = lead_good events middle new (event_good event old middle good h) rest

pub opening_leads_good : (opening : World) → IsOpening opening → (events : List Event) (w : World) → Lead events opening w → IsGood (state_of_world w)
opening_leads_good opening opens events w lead = lead_good events opening w (opens_good opening opens) lead

among : (w : World) (i : ℕ) (h : Holder) → slice_get w.passes i ≡ Some h → Contains (map view_of w.passes) (view_of h)
among w i h e = at_contains (map view_of w.passes) i (view_of h) (at_map view_of w.passes i h (elem_there w.passes i h e))

pub reached_one_term :
    (w : World) → IsGood (state_of_world w) → (i j : ℕ) (one other : Holder) → slice_get w.passes i ≡ Some one → slice_get w.passes j ≡ Some other →
    (p q : ℕ) (s t : Tree) → Knows (view_of one) p s → Knows (view_of other) q t → (p ≡ q) ↔ (s ≡ t)
reached_one_term w good i j one other is is2 p q s t known known2 =
    one_address (state_of_world w) good (view_of one) (view_of other) (among w i one is) (among w j other is2) p q s t known known2

-- ---- what is known stays known

-- the pass k of the new world knows what the pass knew
record HasHeir (pass : Holder) (passes : List Holder) (k : ℕ) : Type 0 where
  later : Holder
  is : slice_get passes k ≡ Some later
  grows : Grows (view_of pass) (view_of later)

more_known : (one other : Holder) → ((r a b : ℕ) → IsListed one.known r a b → IsListed other.known r a b) → Grows (view_of one) (view_of other)
more_known one other more = grows_from_cells (view_of one) (view_of other) more

changed_heir :
    (old : List Holder) (i k : ℕ) (own after pass : Holder) → slice_get old i ≡ Some own → slice_get old k ≡ Some pass →
    ((r a b : ℕ) → IsListed own.known r a b → IsListed after.known r a b) → HasHeir pass (set old i after) k
changed_heir old i k own after pass here there more = go (cases_eq k i)
  where
    go : (k ≡ i) ⊎ (k ≡ i → ⊥) → HasHeir pass (set old i after) k
    go (inl same) =
        let one : own ≡ pass = sym (get_or_from_slice_get old i own pass here) ∙ ap (λ n. get_or old n pass) (sym same) ∙
        get_or_from_slice_get old k pass pass there in
        record { later = after; is = rw same (there_after old i own after here); grows = rw (← one) (more_known own after more) }
    go (inr apart) = record { later = pass; is = there_still old i k pass after apart there; grows = λ r tree known. known }

learn_known :
    (words : List ℕ) (place a b : ℕ) (old new : Holder) → Learns words place a b old new → (r c d : ℕ) → IsListed old.known r c d → IsListed new.known r c d
learn_known words place a b old new (inl (_, is)) r c d listed = rw is listed
learn_known words place a b old new (inr (inl (_, _, _, _, is))) r c d listed = rw is listed
learn_known words place a b old new (inr (inr (_, _, is))) r c d listed = rw is (listed_more old.known (cell_of place a b) r c d listed)

module _ (i j : ℕ) (old new : World) (h : Unites i j old new) (k : ℕ) (pass : Holder) (there : slice_get old.passes k ≡ Some pass) where
  abbrev both : Holder
  both = both_of h.pass h.other

  abbrev after : List Holder
  after = set (set old.passes i both) j (spent_holder h.pass.places)

  kept : (k ≡ j → ⊥) → HasHeir pass (set old.passes i both) k → HasHeir pass after k
  kept apart was = record {
    later = was.later;
    is = there_still (set old.passes i both) j k was.later (spent_holder h.pass.places) apart was.is;
    grows = was.grows;
  }

  by_place : (k ≡ j) ⊎ (k ≡ j → ⊥) → HasHeir pass after (heir_after (unite i j) k)
  by_place (inl same) =
      let one : h.other ≡ pass = sym (get_or_from_slice_get old.passes j h.other pass h.other_at_work.is) ∙
      ap (λ n. get_or old.passes n pass) (sym same) ∙ get_or_from_slice_get old.passes k pass pass there in
      rw (eq-eqb k j same) (record {
        later = both;
        is = there_still (set old.passes i both) j i both (spent_holder h.pass.places) (λ e. h.apart (sym e))
            (there_after old.passes i h.pass both h.at_work.is);
        grows = rw (← one) (more_known h.other both (listed_right h.pass.known h.other.known));
      })
  by_place (inr apart) =
      rw (ne_eqb k j apart)
      (kept apart (changed_heir old.passes i k h.pass both pass h.at_work.is there (listed_left h.pass.known h.other.known)))

  unite_heir : HasHeir pass new.passes (heir_after (unite i j) k)
  unite_heir = rw h.passes (by_place (cases_eq k j))

event_heir : (event : Event) (old new : World) → Happens event old new → (k : ℕ) (pass : Holder) → slice_get old.passes k ≡ Some pass →
    HasHeir pass new.passes (heir_after event k)
event_heir (probe i place a b) old new h k pass there =
    rw h.passes (changed_heir old.passes i k h.pass h.after pass h.at_work.is there (learn_known old.words place a b h.pass h.after h.learns))
event_heir (fill i place a b) old new h k pass there =
    rw h.passes (changed_heir old.passes i k h.pass (after_place place a b h.pass) pass h.at_work.is there
    (λ r c d. listed_more h.pass.known (cell_of place a b) r c d))
event_heir (look i place) old new h k pass there =
    rw h.passes (changed_heir old.passes i k h.pass (after_empty h.pass) pass h.at_work.is there (λ r c d listed. listed))
event_heir (halve i) old new h k pass there =
    let was = changed_heir old.passes i k h.pass (left_half h.pass) pass h.at_work.is there (λ r c d listed. listed) in
    rw h.passes (record {
      later = was.later;
      is = there_before (set old.passes i (left_half h.pass)) (right_half h.pass ∷ []) k was.later was.is;
      grows = was.grows;
    })
event_heir (unite i j) old new h k pass there = unite_heir i j old new h k pass there

pub lead_heir :
    (events : List Event) (old new : World) → Lead events old new → (k : ℕ) (pass : Holder) → slice_get old.passes k ≡ Some pass →
    (later : Holder) × (slice_get new.passes (heir events k) ≡ Some later) × Grows (view_of pass) (view_of later)
lead_heir [] old new is k pass there = (pass, rw is there, λ r tree known. known)
lead_heir (event ∷ events) old new (middle, h, rest) k pass there =
    let first = event_heir event old middle h k pass there in
    let then' = lead_heir events middle new rest (heir_after event k) first.later first.is in
    (then'.0, then'.1, λ r tree known. then'.2 r tree (first.grows r tree known))

-- ---- steps

set_steps :
    (old : List Holder) (i : ℕ) (own after : Holder) → slice_get old i ≡ Some own → (n : ℕ) → after.steps ≡ own.steps + n →
    sum_by (λ (p : Holder). p.steps) (set old i after) ≡ sum_by (λ (p : Holder). p.steps) old + n
set_steps old i own after here n more =
    let sums = sum_by-set (λ (p : Holder). p.steps) old i after own (slice_get_within old i own here) in
    let read : (get_or old i own).steps ≡ own.steps = ap (λ (p : Holder). p.steps) (get_or_from_slice_get old i own own here) in omega arith

learn_steps : (words : List ℕ) (place a b : ℕ) (old new : Holder) → Learns words place a b old new → new.steps ≡ old.steps + 1
learn_steps words place a b old new (inl (_, is)) = ap (λ (p : Holder). p.steps) is
learn_steps words place a b old new (inr (inl (_, _, _, _, is))) = ap (λ (p : Holder). p.steps) is
learn_steps words place a b old new (inr (inr (_, _, is))) = ap (λ (p : Holder). p.steps) is

event_steps : (event : Event) (old new : World) → Happens event old new → steps_made new ≡ steps_made old + 1
event_steps (probe i place a b) old new h =
    rw h.passes (set_steps old.passes i h.pass h.after h.at_work.is 1 (learn_steps old.words place a b h.pass h.after h.learns))
event_steps (fill i place a b) old new h = rw h.passes (set_steps old.passes i h.pass (after_place place a b h.pass) h.at_work.is 1 refl)
event_steps (look i place) old new h = rw h.passes (set_steps old.passes i h.pass (after_empty h.pass) h.at_work.is 1 refl)
event_steps (halve i) old new h =
    let one = sum_by-append (λ (p : Holder). p.steps) (set old.passes i (left_half h.pass)) (right_half h.pass ∷ []) in
    let two = set_steps old.passes i h.pass (left_half h.pass) h.at_work.is 1 refl in rw h.passes (omega arith)
event_steps (unite i j) old new h =
    let both = both_of h.pass h.other in
    let middle = set old.passes i both in
    let there : slice_get middle j ≡ Some h.other = there_still old.passes i j h.other both h.apart h.other_at_work.is in
    let one = set_steps old.passes i h.pass both h.at_work.is (h.other.steps + 1) (omega arith) in
    let sums = sum_by-set (λ (p : Holder). p.steps) middle j (spent_holder h.pass.places) h.other (slice_get_within middle j h.other there) in
    let read : (get_or middle j h.other).steps ≡ h.other.steps = ap (λ (p : Holder). p.steps) (get_or_from_slice_get middle j h.other h.other there) in
    rw h.passes (omega arith)

pub lead_steps : (events : List Event) (old new : World) → Lead events old new → steps_made new ≡ steps_made old + length events
lead_steps [] old new is = rw is (omega arith)
lead_steps (event ∷ events) old new (middle, h, rest) =
    let one = event_steps event old middle h in
    let more = lead_steps events middle new rest in omega arith
