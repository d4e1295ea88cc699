-- Public. How a reading ends. What a reading knows and changes is its state: for a problem, the script so far.
use Rattle.std.specs.Prelude.{ℕ, Result, Ok, Err}
use Rattle.sexpr.specs.declared.causes.Cause.{Cause}
use Rattle.sexpr.specs.declared.causes.Refusal.{Refusal}

-- what was read or the first fault, and the state after it
pub record Outcome (S A : Type 0) : Type 0 where
  pub result : Result A Refusal
  pub state : S

abbrev pub done : {S A : Type 0} → A → S → Outcome S A
done a s = record { result = Ok a; state = s }

abbrev pub refuse : {S A : Type 0} → Cause → ℕ → S → Outcome S A
refuse cause place s = record { result = Err (record { cause = cause; at = place }); state = s }

-- a reading that changes nothing
abbrev pub given : {S A : Type 0} → Result A Refusal → S → Outcome S A
given r s = record { result = r; state = s }

-- One reading and then another. A fault of the first is the fault of both.
abbrev pub going_on : {S A B : Type 0} → Result A Refusal → S → (A → S → Outcome S B) → Outcome S B
going_on (Ok a) s next = next a s
going_on (Err refusal) s next = record { result = Err refusal; state = s }

abbrev pub and_then : {S A B : Type 0} → Outcome S A → (A → S → Outcome S B) → Outcome S B
and_then o next = going_on o.result o.state next
