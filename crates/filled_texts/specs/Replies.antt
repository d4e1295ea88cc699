-- Private. What is told of one reply, and of the filler of one place.
use Rattle.std.specs.Prelude.{◌≡◌, ◌⊎◌, ℕ, Bool, true, false, List, Option, Some, Result, Ok, Err, slice_get, slice_set}
use Rattle.hole_fillers.specs.Benches.{Seat}
use Rattle.filled_texts.specs.declared.asking.Stop.{Stop}
use Rattle.judged_texts.specs.declared.judgement.Judgement.{Judgement}
use Rattle.judged_texts.specs.declared.judgement.Judgement.TheVariants.{Valid, PoolFull}
use Rattle.filled_texts.specs.Asking.{Fills, IsFilledBy, FillsNow, LeavesOpen, IsNotJudged, IsOutOfMemory, StopsNow}

-- what a judgement of the question and a reply tells of the reply
abbrev pub told_by : Judgement → Result Bool Stop
told_by Valid = Ok true
told_by PoolFull = Err Stop.PoolFull
told_by _ = Ok false

-- whether bytes fill the question
abbrev pub IsTold : List ℕ → List ℕ → Bool → Type 0
IsTold question reply true = Fills question reply
IsTold question reply false = ¬ Fills question reply

abbrev pub IsNotTold : ℕ → List ℕ → List ℕ → Stop → Type 0
IsNotTold bits question reply stop = IsNotJudged bits question (Some reply) stop

-- whether a reply does
abbrev pub IsToldOf : List ℕ → Option (List ℕ) → Bool → Type 0
IsToldOf question reply true = IsFilledBy question reply
IsToldOf question reply false = ¬ IsFilledBy question reply

-- what became of the filler of the place, and whether its reply fills the question
abbrev pub IsToldBy : List ℕ → Seat → Seat → Bool → Type 0
IsToldBy question old new true = FillsNow question old new
IsToldBy question old new false = LeavesOpen question old new

pub record IsToldAt (question : List ℕ) (i : ℕ) (old new : List Seat) (is_filled : Bool) : Type 0 where
  pub at : Seat
  pub now : Seat
  pub there : slice_get old i ≡ Some at
  pub is : new ≡ slice_set old i now
  pub told : IsToldBy question at now is_filled

-- it is out of memory, or its reply was not judged
pub record IsNotToldAt (bits : ℕ) (question : List ℕ) (i : ℕ) (old new : List Seat) (stop : Stop) : Type 0 where
  pub at : Seat
  pub now : Seat
  pub there : slice_get old i ≡ Some at
  pub is : new ≡ slice_set old i now
  pub stops : IsOutOfMemory at now stop ⊎ StopsNow bits question at now stop
