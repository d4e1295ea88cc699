-- A call for a cell, in words that one pass has for itself and at a table that passes share; and what follows in either case.
use Rattle.std.proofs.Common.{◌≡◌, ℕ, ◌+◌, ◌^◌, ◌<◌, ◌≤◌, inl, inr, List, length, Option, Some, None, refl, ap, sym, ◌∙◌, arith, Vec, Global}
use Rattle.std.specs.Option.{IfSome, option_map, unwrap_or}
use Rattle.std.proofs.lemmas.Option.{none-some}
use Rattle.atomic_table.specs.Seated.{TableId}
use Rattle.atomic_table.specs.declared.shared.Seat.{Seat as Declared}
use Rattle.pair_pool.specs.declared.hold.Hold.{Hold}
use Rattle.pair_pool.specs.declared.hold.Hold.TheVariants.{Words, Seat}
use Rattle.pair_pool.specs.declared.holder.Holder.{Holder}
use Rattle.pair_pool.specs.Trees.{Tree, cell}
use Rattle.pair_pool.specs.Views.{PassView, HasCell, Knows, Grows}
use Rattle.pair_pool.specs.Words.{cell_word, IsCell}
use Rattle.pair_pool.specs.GoodStates.{AreGoodWords, IsReference, IsGood}
use Rattle.pair_pool.specs.Writes.{AddsWord, IsFullOfOthers}
use Rattle.pair_pool.specs.OnlyPass.{only_pass, only_state, cells_of}
use Rattle.pair_pool.specs.Holders.{view_of, IsListedPart}
use Rattle.pair_pool.specs.Sharing.{IsInGood, Sought, Missed}
use Rattle.pair_pool.specs.Held.{held, IsHeld, HasFound, HasNoRoom}
use Rattle.pair_pool.proofs.PassLemmas.{adds_at_most, listed_from_cell, cell_from_listed, full_for_pass, grows_from_cells, knows_cell}
use Rattle.pair_pool.proofs.PoolLemmas.{good_truth, sought_cell, sought_known, sought_placed, sought_was_there, missed_full}

-- what a pass holds is a pass of a good state
pub held_good : (h : Hold) → IsHeld h → IsInGood (held h).view
held_good (Words words) good = record { state = only_state words.items; good = good; among = (0, omega arith, refl) }
held_good (Seat seat) live = live.good

-- ---- words of its own

pub held_words : (h : Hold) (words : Vec ℕ Global) → h ≡ Words words → IsHeld h → AreGoodWords words.items
held_words h words is good = let own : IsGood (only_state words.items) = rw is at good in own.table

pub as_many : (h : Hold) (words : Vec ℕ Global) (n : ℕ) → h ≡ Words words → (held h).view.places ≡ n → length words.items ≡ n
as_many h words n is e = sym (ap (λ x. (held x).view.places) is) ∙ e

pub own_part : (words : List ℕ) → AreGoodWords words → (r : ℕ) → IsListedPart (cells_of words) r → IsReference words r
own_part words table r (inl low) = inl low
own_part words table r (inr (c, d, h)) = inr (c, d, cell_from_listed words table r c d h)

pub own_found :
    (old new : List ℕ) (a b r : ℕ) → AreGoodWords old → AreGoodWords new → length new ≡ length old → AddsWord old new r a b →
    ((q : ℕ) → IsCell old q a b → new ≡ old) → HasFound (only_pass old) (only_pass new) a b r
own_found old new a b r was is long adds there =
    let more = adds_at_most old new r a b was is adds in
    record {
      places = long;
      shares = refl;
      sees = more.kept;
      cell = listed_from_cell new r a b adds.cell;
      known = more;
      placed = more;
      was_there = λ q seen. ap cells_of (there q (cell_from_listed old was q a b seen));
    }

pub own_low : (old new : List ℕ) (a b r : ℕ) → AreGoodWords new → AddsWord old new r a b → r < 2 ^ 31
own_low old new a b r table adds =
    let inside : r < 2 ^ 30 + length new = adds.cell.inside in
    let most : length new ≤ 2 ^ 26 = table.most in omega arith

pub own_no_room :
    (old new : List ℕ) (a b : ℕ) → AreGoodWords old → new ≡ old → IsFullOfOthers old (cell_word a b) → HasNoRoom (only_pass old) (only_pass new) a b
own_no_room old new a b table same full = rw same (record {
  places = refl;
  shares = refl;
  sees = λ r c d h. h;
  known = refl;
  placed = refl;
  full = full_for_pass old a b table full;
})

-- ---- a seat

pub seat_found : (a b place : ℕ) (old new : Holder) → Sought a b place old new → HasFound (view_of old) (view_of new) a b (2 ^ 30 + place)
seat_found a b place old new h = record {
  places = h.seeks.places;
  shares = h.seeks.shares;
  sees = h.seeks.sees;
  cell = sought_cell a b place old new h;
  known = sought_known a b place old new h;
  placed = sought_placed a b place old new h;
  was_there = sought_was_there a b place old new h;
}

pub seat_no_room : (a b : ℕ) (old new : Holder) → IsInGood (view_of new) → Missed a b old new → HasNoRoom (view_of old) (view_of new) a b
seat_no_room a b old new good h = record {
  places = h.seeks.places;
  shares = h.seeks.shares;
  sees = h.seeks.sees;
  known = h.known;
  placed = h.placed;
  full = missed_full a b old new good h;
}

-- ---- either

module _ (old new : PassView) (a b r : ℕ) (h : HasFound old new a b r) where
  pub found_grows : Grows old new
  found_grows = grows_from_cells old new h.known.kept

  pub found_stands : (s t : Tree) → Knows old a s → Knows old b t → Knows new r (cell s t)
  found_stands = knows_cell old new r a b found_grows h.cell

pub good_high : (pass : PassView) → IsInGood pass → (r a b : ℕ) → HasCell pass r a b → 2 ^ 30 ≤ r
good_high pass is r a b h = let truth = good_truth pass is in (truth.seen r a b (truth.known r a b h)).is_cell

-- the number of words of a table that there is
pub table_words :
    {T : Type 0} (f : T → TableId) (table : Option T) (n : ℕ) → IfSome table (λ t. (f t).words ≡ n) → (id : TableId) → option_map f table ≡ Some id →
    id.words ≡ n
table_words f (Some t) n wide id e = let same : f t ≡ id = ap (λ o. unwrap_or o id) e in rw same at wide
table_words f None n wide id e = absurd (none-some id e)

-- the seat of a pass of a shared pool is one at the pool's table
pub seat_table :
    {T : Type 0} (f : T → TableId) (h : Hold) (seat : Declared (Unit {0}) Holder) (table : Option T) (t : T) → h ≡ Seat seat → table ≡ Some t →
    (held h).table ≡ option_map f table → seat.table_id ≡ f t
seat_table f h seat table t is there e =
    ap (λ o. unwrap_or o (f t)) (sym (ap (λ x. (held x).table) is) ∙ e ∙ ap (option_map f) there)

-- a pass of a shared pool has no words for itself
pub has_no_words : (h : Hold) (words : Vec ℕ Global) (id : TableId) → h ≡ Words words → (held h).table ≡ Some id → ⊥
has_no_words h words id is e = none-some id (sym (ap (λ x. (held x).table) is) ∙ e)

-- a pass that has a pool for itself has no seat
pub has_no_seat : (h : Hold) (seat : Declared (Unit {0}) Holder) → h ≡ Seat seat → (held h).table ≡ None → ⊥
has_no_seat h seat is e = none-some seat.table_id (sym e ∙ ap (λ x. (held x).table) is)

pub some_table : {T : Type 0} (table : Option T) (P : T → Type 0) (t : T) → IfSome table P → table ≡ Some t → P t
some_table table P t h is = rw is at h
