-- Public. Workers that share a pool of terms and a claimer of chunks. Each event is one atomic step, of a pass on a word of the
-- pool, or of a seat on the claimer's word; they fall in any order.
use Rattle.std.specs.Prelude.{◌≡◌, ◌+◌, ℕ, List, [], ◌∷◌}
use Rattle.pair_pool.specs.Events as Pool
use Rattle.step_claimer.specs.Events as Claims

-- the words and passes of the pool, and the word and seats of the claimer
pub record World : Type 0 where
  pub pool : Pool.World
  pub claims : Claims.World

pub data Event : Type 0 where
  of_pass : Pool.Event → Event
  of_seat : Claims.Event → Event

abbrev pub Happens : Event → World → World → Type 0
Happens (of_pass event) old new = Pool.Happens event old.pool new.pool × (new.claims ≡ old.claims)
Happens (of_seat event) old new = Claims.Happens event old.claims new.claims × (new.pool ≡ old.pool)

-- one after the other, the events lead from one world to another
abbrev pub Lead : List Event → World → World → Type 0
Lead [] old new = new ≡ old
Lead (event ∷ events) old new = (middle : World) × Happens event old middle × Lead events middle new

-- where workers of n chunks begin: the pool comes to be shared, and the claimer was just made
pub record IsOpening (n : ℕ) (w : World) : Type 0 where
  pub pool : Pool.IsOpening w.pool
  pub claims : w.claims ≡ Claims.opening_world n

-- some events lead to this world from where workers of n chunks begin
pub record IsReached (n : ℕ) (w : World) : Type 0 where
  pub opening : World
  pub opens : IsOpening n opening
  pub events : List Event
  pub lead : Lead events opening w

-- the events of passes alone, and of seats alone
abbrev pub pass_events : List Event → List Pool.Event
pass_events [] = []
pass_events (of_pass event ∷ events) = event ∷ pass_events events
pass_events (of_seat event ∷ events) = pass_events events

abbrev pub seat_events : List Event → List Claims.Event
seat_events [] = []
seat_events (of_pass event ∷ events) = seat_events events
seat_events (of_seat event ∷ events) = event ∷ seat_events events

-- the pass that has what pass k had: after a join, the one that took it in
abbrev pub heir : List Event → ℕ → ℕ
heir events k = Pool.heir (pass_events events) k

-- how many atomic steps all passes and seats have made
abbrev pub steps_made : World → ℕ
steps_made w = Pool.steps_made w.pool + Claims.steps_made w.claims
