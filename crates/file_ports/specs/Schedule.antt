-- Public. The calls of an object in memory, numbered from 0, of which some are told to fail.
use Rattle.std.specs.Prelude.{◌≡◌, ℕ, List, Contains}
use Rattle.file_ports.specs.Faults.{one_more}

-- The numbers of the calls that fail, the number of the next call, and the count of faults. The number of a call
-- stops where a count does.
pub record Calls : Type 0 where
  pub failing : List ℕ
  pub next : ℕ
  pub faults : ℕ

-- the next call is one of those that fail
abbrev pub FailsNext : Calls → Type 0
FailsNext calls = Contains calls.failing calls.next

-- One call went by. The count of faults rises by one where the call is a fault, and stays where it is none.
pub record IsOneCall (Fault : Type 0) (old new : Calls) : Type 0 where
  pub failing : new.failing ≡ old.failing
  pub next : new.next ≡ one_more old.next
  pub rises : Fault → new.faults ≡ one_more old.faults
  pub stays : ¬ Fault → new.faults ≡ old.faults
