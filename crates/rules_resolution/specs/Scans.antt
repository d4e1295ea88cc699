-- Private. Propagation by scans of the premises, as they stand.
use Rattle.std.specs.Prelude.{◌≡◌, ℕ, ◌+◌, ◌<◌, Bool, true, false, not, ◌&&◌, List, ◌++◌, length}
use Rattle.rule_model.specs.Consequence.{literal_at, premise_at, IsConflict, Leads}
use Rattle.rules_resolution.specs.declared.few.Look.{Look}
use Rattle.rules_resolution.specs.declared.few.Round.{Round}
use Rattle.rules_resolution.specs.Falsity.{same_literal, is_false_in}
use Rattle.rules_resolution.specs.Idle.{IsIdle, AllIdleBelow}
use Rattle.rules_resolution.specs.Literal.{Lit}

-- the first literals of the clause are false
abbrev pub AreFalseBelow : List Lit → List Lit → ℕ → Type 0
AreFalseBelow falses clause n = (k : ℕ) → k < n → is_false_in falses (literal_at clause k) ≡ true

-- the literal at this place is not false
pub record IsOpen (falses clause : List Lit) (place : ℕ) : Type 0 where
  pub within : place < length clause
  pub not_false : is_false_in falses (literal_at clause place) ≡ false

-- whether a literal is not false, and is another one
abbrev pub is_other : List Lit → Lit → Lit → Bool
is_other falses other l = not (is_false_in falses l) && not (same_literal l other)

-- there is no such literal among the first ones
abbrev pub HasNoOtherBelow : List Lit → List Lit → Lit → ℕ → Type 0
HasNoOtherBelow falses clause other n = (k : ℕ) → k < n → is_other falses other (literal_at clause k) ≡ false

-- there is one
abbrev pub HasOther : List Lit → List Lit → Lit → Type 0
HasOther falses clause other = (k : ℕ) × (k < length clause) × (is_other falses other (literal_at clause k) ≡ true)

-- What follows from these false literals follows from the conclusion's negation by these units first.
pub record IsScanReached (premises : List (List Lit)) (goal : List Lit) (units : List (ℕ × ℕ)) (falses : List Lit) : Type 0 where
  pub leads_on : (us : List (ℕ × ℕ)) (last : ℕ) → Leads premises falses us last → Leads premises goal (units ++ us) last
  pub more : (l : Lit) → is_false_in goal l ≡ true → is_false_in falses l ≡ true

-- from what is reached from any conclusion to what is reached from it
abbrev pub Reaches : List (List Lit) → List (ℕ × ℕ) → List Lit → List (ℕ × ℕ) → List Lit → Type 0
Reaches premises units falses new_units new_falses =
    (goal : List Lit) → IsScanReached premises goal units falses → IsScanReached premises goal new_units new_falses

-- what a look at a premise has found
abbrev pub IsLook : Look → List (List Lit) → ℕ → List (ℕ × ℕ) → List Lit → List (ℕ × ℕ) → List Lit → Type 0
IsLook Look.Conflict premises p units falses new_units new_falses =
    (new_units ≡ units) × (new_falses ≡ falses) × IsConflict premises falses p
IsLook Look.Unit premises p units falses new_units new_falses =
    (length new_units ≡ length units + 1) × Reaches premises units falses new_units new_falses
IsLook Look.Idle premises p units falses new_units new_falses =
    (new_units ≡ units) × (new_falses ≡ falses) × IsIdle falses (premise_at premises p)

-- what a look at each premise has found
abbrev pub IsRound : Round → List (List Lit) → List (ℕ × ℕ) → List Lit → List (ℕ × ℕ) → List Lit → Type 0
IsRound (Round.Conflict last) premises units falses new_units new_falses =
    Reaches premises units falses new_units new_falses × IsConflict premises new_falses last
IsRound Round.Units premises units falses new_units new_falses = Reaches premises units falses new_units new_falses
IsRound Round.Idle premises units falses new_units new_falses =
    Reaches premises units falses new_units new_falses × AllIdleBelow premises new_falses (length premises)
