-- Private. The table of a pool under atomic steps: its rule, and what each kind of step tells.
use Rattle.std.specs.Prelude.{◌≡◌, ◌≢◌, ℕ, ◌+◌, ◌*◌, ◌<◌, ◌≤◌, ◌^◌, ◌⊎◌, [], ◌∷◌, map, Contains, Some}
use Rattle.atomic_table.specs.Table as Atomic
use Rattle.atomic_table.specs.declared.shared.Seat.{Seat}
use Rattle.pair_pool.specs.declared.holder.Holder.{Holder}
use Rattle.pair_pool.specs.Holders.{HasSeenOthers, IsListedPart, after_empty, after_here, after_other, after_place, cell_of, view_of}
use Rattle.pair_pool.specs.Views.{PassView, Holding, IsListed}
use Rattle.pair_pool.specs.Words.{cell_word, probe_start, probe_place}
use Rattle.pair_pool.specs.GoodStates.{State, IsGood}

abbrev pub TableState : Type 0
TableState = Atomic.State (Unit {0}) Holder

abbrev pub Me : Type 0
Me = Atomic.Me (Unit {0}) Holder

abbrev pub Step : Type 0
Step = Atomic.Step (Unit {0})

abbrev pub state_of : TableState → State
state_of s = record { words = s.words; passes = map view_of s.views }

-- the rule of the table
abbrev pub IsShared : TableState → Type 0
IsShared s = IsGood (state_of s)

-- a pass of some good state
pub record IsInGood (pass : PassView) : Type 0 where
  pub state : State
  pub good : IsGood state
  pub among : Contains state.passes pass

-- what contracts see of a pass
abbrev pub holding_of : Seat (Unit {0}) Holder → Holding
holding_of seat = record { view = view_of seat.me.0; steps = seat.me.0.steps; table = Some seat.table_id }

-- what holds of a pass between its steps: it is one of a good state, has at least one share, and no slot is out with it
pub record IsLive (seat : Seat (Unit {0}) Holder) : Type 0 where
  pub good : IsInGood (view_of seat.me.0)
  pub some : 0 < seat.me.0.shares
  pub slots : seat.me.1 ≡ []

-- another cell than (a, b) stands at the place, and the pass has seen it
pub record SeesOther (a b place found : ℕ) (old new : Holder) : Type 0 where
  pub first : ℕ
  pub second : ℕ
  pub differs : (first ≢ a) ⊎ (second ≢ b)
  pub view : new ≡ after_other place first second old

-- What a probe for (a, b) tells. The new view is one of a good state.
pub record Probed (a b place : ℕ) (old : Me) (found : ℕ) (new : Me) : Type 0 where
  pub slots : new.1 ≡ old.1
  pub good : IsInGood (view_of new.0)
  pub empty : found ≡ 0 → new.0 ≡ after_empty old.0
  pub here : found ≡ cell_word a b → new.0 ≡ after_here place a b old.0
  pub other : found ≢ 0 → found ≢ cell_word a b → SeesOther a b place found old.0 new.0

-- what placing (a, b) tells where the word was 0: the pass had not seen the cell anywhere
pub record Placed (a b place : ℕ) (old : Me) (new : Me) : Type 0 where
  pub slots : new.1 ≡ old.1
  pub good : IsInGood (view_of new.0)
  pub view : new.0 ≡ after_place place a b old.0
  pub was_nowhere : (r : ℕ) → IsListed old.0.seen r a b → ⊥

abbrev pub probed : ℕ → ℕ → Step → Me → ℕ → Me → Type 0
probed a b st old found new = Probed a b st.word old found new

-- a compare_exchange that fails is a probe of what it found
abbrev pub placing : ℕ → ℕ → Step → Me → ℕ → Me → Type 0
placing a b st old found new = (found ≡ 0 → Placed a b st.word old new) × (found ≢ 0 → Probed a b st.word old found new)

-- The look at a place found the cell (a, b) there, or placed it where the pass had seen it nowhere, in so many steps.
pub record Finds (a b place most : ℕ) (old new : Holder) : Type 0 where
  pub places : new.places ≡ old.places
  pub shares : new.shares ≡ old.shares
  pub steps : new.steps ≤ old.steps + most
  pub seen : new.seen ≡ cell_of place a b ∷ old.seen
  pub known : new.known ≡ cell_of place a b ∷ old.known
  pub placed : (new.placed ≡ old.placed) ⊎ ((new.placed ≡ cell_of place a b ∷ old.placed) × ((r : ℕ) → IsListed old.seen r a b → ⊥))

-- The look at a place found another cell there.
pub record Passes (a b place most : ℕ) (old new : Holder) : Type 0 where
  pub places : new.places ≡ old.places
  pub shares : new.shares ≡ old.shares
  pub steps : new.steps ≤ old.steps + most
  pub sees : (r c d : ℕ) → IsListed old.seen r c d → IsListed new.seen r c d
  pub known : new.known ≡ old.known
  pub placed : new.placed ≡ old.placed
  pub other : (c : ℕ) × (d : ℕ) × IsListed new.seen (2 ^ 30 + place) c d × ((c ≢ a) ⊎ (d ≢ b))

-- the pass may look at the place for the cell (a, b), and place it there where it is empty
pub record MayLook (a b place word : ℕ) (h : Holder) : Type 0 where
  pub inside : place < h.places
  pub first : IsListedPart h.known a
  pub second : IsListedPart h.known b
  pub spelled : word ≡ cell_word a b
  pub steps : ℕ
  pub within : steps < h.places
  pub there : place ≡ probe_place h.places (probe_start h.places a b) steps
  pub others : HasSeenOthers h a b steps

-- What a whole probe did in at most two steps for each place: the places and shares stay, and what was seen stays seen.
pub record Seeks (old new : Holder) : Type 0 where
  pub places : new.places ≡ old.places
  pub shares : new.shares ≡ old.shares
  pub steps : new.steps ≤ old.steps + 2 * old.places
  pub sees : (r c d : ℕ) → IsListed old.seen r c d → IsListed new.seen r c d

-- It found the cell (a, b) at the place, or placed it there where the pass had seen it nowhere.
pub record Sought (a b place : ℕ) (old new : Holder) : Type 0 where
  pub seeks : Seeks old new
  pub known : new.known ≡ cell_of place a b ∷ old.known
  pub placed : (new.placed ≡ old.placed) ⊎ ((new.placed ≡ cell_of place a b ∷ old.placed) × ((r : ℕ) → IsListed old.seen r a b → ⊥))

-- Each place has another cell, which the pass has seen.
pub record Missed (a b : ℕ) (old new : Holder) : Type 0 where
  pub seeks : Seeks old new
  pub known : new.known ≡ old.known
  pub placed : new.placed ≡ old.placed
  pub others : HasSeenOthers new a b old.places

-- a probe that has made so many turns, and has come to the place `at`
pub record IsSeeking (a b : ℕ) (old : Holder) (at turns : ℕ) (new : Holder) : Type 0 where
  pub inside : at < old.places
  pub there : at ≡ probe_place old.places (probe_start old.places a b) turns
  pub places : new.places ≡ old.places
  pub shares : new.shares ≡ old.shares
  pub steps : new.steps ≤ old.steps + 2 * turns
  pub sees : (r c d : ℕ) → IsListed old.seen r c d → IsListed new.seen r c d
  pub known : new.known ≡ old.known
  pub placed : new.placed ≡ old.placed
  pub others : HasSeenOthers new a b turns

-- what a load tells of the parts of a cell that the pass has seen there, and of the pass: nothing but the count changes
pub record Looked (old : Me) (place found : ℕ) (new : Me) : Type 0 where
  pub slots : new.1 ≡ old.1
  pub view : new.0 ≡ after_empty old.0
  pub good : IsInGood (view_of new.0)
  pub word : (c d : ℕ) → IsListed old.0.seen (2 ^ 30 + place) c d → found ≡ cell_word c d

abbrev pub looked : Step → Me → ℕ → Me → Type 0
looked st old found new = Looked old st.word found new
