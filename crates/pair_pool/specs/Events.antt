-- Public. The events in a pool that passes share: each is one atomic step on one word of the table, by one pass. A world
-- is what the words and the passes are between two events.
use Rattle.std.specs.Prelude.{◌≡◌, ℕ, ◌+◌, ◌<◌, ◌^◌, ◌==◌, ◌⊎◌, if◌then◌else◌, List, [], ◌∷◌, ◌++◌, length, map, replicate, slice_index, slice_get}
use Rattle.std.specs.Prelude.{slice_set, Some, sum_by}
use Rattle.pair_pool.specs.declared.holder.Holder.{Holder}
use Rattle.pair_pool.specs.Words.{cell_word, probe_start, probe_place, IsCell}
use Rattle.pair_pool.specs.GoodStates.{State, AreGoodWords}
use Rattle.pair_pool.specs.OnlyPass.{only_holder}
use Rattle.pair_pool.specs.Holders.{view_of, first_holder, IsListedPart, after_empty, after_other, after_here, after_place, HasSeenOthers, left_half}
use Rattle.pair_pool.specs.Holders.{right_half, both_of, spent_holder}

pub record World : Type 0 where
  pub words : List ℕ
  pub passes : List Holder

abbrev pub state_of_world : World → State
state_of_world w = record { words = w.words; passes = map view_of w.passes }

-- the world of a pool of 2^bits places that was just made: no cell, and one pass with all 65 shares
abbrev pub opening_world : ℕ → World
opening_world bits = record { words = replicate (2 ^ bits) 0; passes = first_holder (2 ^ bits) ∷ [] }

-- the world of a pool of these words when it comes to be shared: one pass has seen, knows and placed every cell of the words,
-- and holds all 65 shares
abbrev pub shared_world : List ℕ → World
shared_world words = record { words = words; passes = only_holder words ∷ [] }

-- a world in which events begin
pub record IsOpening (w : World) : Type 0 where
  pub words : List ℕ
  pub good : AreGoodWords words
  pub is : w ≡ shared_world words

-- pass i looks at a place for the cell (a, b); places it there; looks at a place and learns nothing; is split; takes in pass j
pub data Event : Type 0 where
  probe : ℕ → ℕ → ℕ → ℕ → Event
  fill : ℕ → ℕ → ℕ → ℕ → Event
  look : ℕ → ℕ → Event
  halve : ℕ → Event
  unite : ℕ → ℕ → Event

-- pass i is this one, and has not been spent
pub record IsAtWork (w : World) (i : ℕ) (pass : Holder) : Type 0 where
  pub is : slice_get w.passes i ≡ Some pass
  pub some : 0 < pass.shares

-- the parts of a cell that a pass may know are leaves or cells that it knows
abbrev pub KnowsParts : Holder → ℕ → ℕ → Type 0
KnowsParts pass a b = IsListedPart pass.known a × IsListedPart pass.known b

-- The new pass has learnt of the word at a place what a probe for (a, b) tells: nothing where the word is 0; the cell that
-- it spells has been seen; where that is the one sought, and its parts are known, it is known too.
abbrev pub Learns : List ℕ → ℕ → ℕ → ℕ → Holder → Holder → Type 0
Learns words place a b old new =
    ((slice_index words place ≡ 0) × (new ≡ after_empty old))
    ⊎ ((c : ℕ) × (d : ℕ) × IsCell words (2 ^ 30 + place) c d × ((c ≡ a) × (d ≡ b) × KnowsParts old a b → ⊥)
    × (new ≡ after_other place c d old))
    ⊎ (IsCell words (2 ^ 30 + place) a b × KnowsParts old a b × (new ≡ after_here place a b old))

pub record Probes (i place a b : ℕ) (old new : World) : Type 0 where
  pub pass : Holder
  pub after : Holder
  pub at_work : IsAtWork old i pass
  pub inside : place < length old.words
  pub learns : Learns old.words place a b pass after
  pub words : new.words ≡ old.words
  pub passes : new.passes ≡ slice_set old.passes i after

-- The cell (a, b) is placed where the word is 0, by a pass that knows its parts, and that has seen another cell at every
-- earlier place of the probe.
pub record Fills (i place a b : ℕ) (old new : World) : Type 0 where
  pub pass : Holder
  pub at_work : IsAtWork old i pass
  pub inside : place < length old.words
  pub free : slice_index old.words place ≡ 0
  pub parts : KnowsParts pass a b
  pub turns : ℕ
  pub within : turns < pass.places
  pub there : place ≡ probe_place pass.places (probe_start pass.places a b) turns
  pub others : HasSeenOthers pass a b turns
  pub words : new.words ≡ slice_set old.words place (cell_word a b)
  pub passes : new.passes ≡ slice_set old.passes i (after_place place a b pass)

-- That of `parts`, and the one after a join.
pub record Looks (i place : ℕ) (old new : World) : Type 0 where
  pub pass : Holder
  pub at_work : IsAtWork old i pass
  pub inside : place < length old.words
  pub words : new.words ≡ old.words
  pub passes : new.passes ≡ slice_set old.passes i (after_empty pass)

-- one share goes to a new pass
pub record Halves (i : ℕ) (old new : World) : Type 0 where
  pub pass : Holder
  pub at_work : IsAtWork old i pass
  pub shares : 1 < pass.shares
  pub words : new.words ≡ old.words
  pub passes : new.passes ≡ slice_set old.passes i (left_half pass) ++ right_half pass ∷ []

-- pass i has what both had, and pass j is spent
pub record Unites (i j : ℕ) (old new : World) : Type 0 where
  pub pass : Holder
  pub other : Holder
  pub at_work : IsAtWork old i pass
  pub other_at_work : IsAtWork old j other
  pub apart : j ≡ i → ⊥
  pub words : new.words ≡ old.words
  pub passes : new.passes ≡ slice_set (slice_set old.passes i (both_of pass other)) j (spent_holder pass.places)

abbrev pub Happens : Event → World → World → Type 0
Happens (probe i place a b) old new = Probes i place a b old new
Happens (fill i place a b) old new = Fills i place a b old new
Happens (look i place) old new = Looks i place old new
Happens (halve i) old new = Halves i old new
Happens (unite i j) old new = Unites i j old new

-- one after the other, the events lead from one world to another
abbrev pub Lead : List Event → World → World → Type 0
Lead [] old new = new ≡ old
Lead (event ∷ events) old new = (middle : World) × Happens event old middle × Lead events middle new

-- the pass that has what pass k had: after a join, the one that took it in
abbrev pub heir_after : Event → ℕ → ℕ
heir_after (probe i place a b) k = k
heir_after (fill i place a b) k = k
heir_after (look i place) k = k
heir_after (halve i) k = k
heir_after (unite i j) k = if k == j then i else k

abbrev pub heir : List Event → ℕ → ℕ
heir [] k = k
heir (event ∷ events) k = heir events (heir_after event k)

-- how many atomic steps all passes have made
abbrev pub steps_made : World → ℕ
steps_made w = sum_by (λ pass. pass.steps) w.passes
