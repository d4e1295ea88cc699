-- Public. The events at a claimer that workers share: each is one atomic step on its word, by one seat. A world is what the
-- word and the seats are between two events.
use Rattle.std.specs.Prelude.{◌≡◌, ℕ, ◌+◌, ◌<◌, false, List, [], ◌∷◌, ◌++◌, slice_get, slice_set, Some, sum_by}
use Rattle.step_claimer.specs.declared.drawer.Drawer.{Drawer}
use Rattle.step_claimer.specs.Drawers.{first_drawer, after_draw, after_look, left_half, right_half, both_of, spent_drawer}

pub record World : Type 0 where
  pub next : ℕ
  pub seats : List Drawer

-- the world of a claimer of n numbers that was just made: none was drawn, and one seat has all 65 shares
abbrev pub opening_world : ℕ → World
opening_world n = record { next = 0; seats = first_drawer n ∷ [] }

-- seat i draws; looks at the word and draws nothing; is split; takes in seat j
pub data Event : Type 0 where
  draw : ℕ → Event
  look : ℕ → Event
  halve : ℕ → Event
  unite : ℕ → ℕ → Event

-- seat i is this one, and has not been spent
pub record IsAtWork (w : World) (i : ℕ) (seat : Drawer) : Type 0 where
  pub is : slice_get w.seats i ≡ Some seat
  pub some : 0 < seat.shares

-- one that has not ended draws the next number, whether it is below the count or not
pub record Drew (i : ℕ) (old new : World) : Type 0 where
  pub seat : Drawer
  pub at_work : IsAtWork old i seat
  pub goes_on : seat.ended ≡ false
  pub next : new.next ≡ old.next + 1
  pub seats : new.seats ≡ slice_set old.seats i (after_draw old.next seat)

-- the step that follows a join
pub record DidLook (i : ℕ) (old new : World) : Type 0 where
  pub seat : Drawer
  pub at_work : IsAtWork old i seat
  pub next : new.next ≡ old.next
  pub seats : new.seats ≡ slice_set old.seats i (after_look seat)

-- one share goes to a new seat
pub record Halved (i : ℕ) (old new : World) : Type 0 where
  pub seat : Drawer
  pub at_work : IsAtWork old i seat
  pub shares : 1 < seat.shares
  pub next : new.next ≡ old.next
  pub seats : new.seats ≡ slice_set old.seats i (left_half seat) ++ right_half seat ∷ []

-- seat i has what both had, and seat j is spent
pub record United (i j : ℕ) (old new : World) : Type 0 where
  pub seat : Drawer
  pub other : Drawer
  pub at_work : IsAtWork old i seat
  pub other_at_work : IsAtWork old j other
  pub apart : j ≡ i → ⊥
  pub next : new.next ≡ old.next
  pub seats : new.seats ≡ slice_set (slice_set old.seats i (both_of seat other)) j (spent_drawer seat.count)

abbrev pub Happens : Event → World → World → Type 0
Happens (draw i) old new = Drew i old new
Happens (look i) old new = DidLook i old new
Happens (halve i) old new = Halved i old new
Happens (unite i j) old new = United i j old new

-- one after the other, the events lead from one world to another
abbrev pub Lead : List Event → World → World → Type 0
Lead [] old new = new ≡ old
Lead (event ∷ events) old new = (middle : World) × Happens event old middle × Lead events middle new

-- how many atomic steps all seats have made
abbrev pub steps_made : World → ℕ
steps_made w = sum_by (λ (v : Drawer). v.steps) w.seats
