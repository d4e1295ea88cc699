-- Private. How far propagation has come.
use Rattle.std.specs.Prelude.{◌≡◌, ◌⊎◌, ℕ, ◌<◌, ◌≤◌, Bool, true, false, List, ◌++◌, length, All, Contains}
use Rattle.rule_model.specs.Consequence.{premise_at, IsConflict, Leads}
use Rattle.rule_model.specs.declared.literal.Literal.TheVariants.{Always}
use Rattle.rules_resolution.specs.Falsity.{is_false_in}
use Rattle.rules_resolution.specs.Literal.{Lit}
use Rattle.rules_resolution.specs.declared.occurrence.Occurrence.{Occurrence}
use Rattle.rules_resolution.specs.declared.standing.Standing.{Standing}
use Rattle.rules_resolution.specs.Idle.{IsSettled}
use Rattle.rules_resolution.specs.Standing.{open_at}
use Rattle.rules_resolution.specs.Work.{IsState, falses_of}

-- nothing more is to be had from the premise now
abbrev pub PremiseIsDone : List (List Lit) → List Lit → List Standing → ℕ → Type 0
PremiseIsDone premises falses standings p =
    (2 ≤ open_at standings p) ⊎ ((1 ≤ open_at standings p) × IsSettled falses (premise_at premises p))

abbrev pub IsReadyOr : List (List Lit) → List Lit → List Standing → List ℕ → ℕ → Type 0
IsReadyOr premises falses standings ready p =
    Contains ready p ⊎ PremiseIsDone premises falses standings p

-- what follows from here follows from the conclusion's negation by these units first
abbrev pub LeadsOn : List (List Lit) → List Lit → List (ℕ × ℕ) → Type 0
LeadsOn premises goal units =
    (us : List (ℕ × ℕ)) (last : ℕ) → Leads premises (falses_of premises goal units) us last → Leads premises goal (units ++ us) last

-- marks and standings are those after these units, and each premise is done, or ready, or the one that is
-- looked at now
pub record IsProgress (premises : List (List Lit)) (goal : List Lit) (units : List (ℕ × ℕ)) (table : List Occurrence) (marks : List Bool)
    (standings : List Standing) (ready : List ℕ) (current : ℕ) : Type 0 where
  pub state : IsState premises goal (falses_of premises goal units) table marks standings
  pub leads_on : LeadsOn premises goal units
  pub more : (l : Lit) → is_false_in goal l ≡ true → is_false_in (falses_of premises goal units) l ≡ true
  pub always_open : is_false_in (falses_of premises goal units) Always ≡ false
  pub in_range : All (λ p. p < length standings) ready
  pub each : (p : ℕ) → p < length premises → (p ≡ current) ⊎ IsReadyOr premises (falses_of premises goal units) standings ready p

abbrev pub IsSomeProgress : List (List Lit) → List (ℕ × ℕ) → List Occurrence → List Bool → List Standing → List ℕ → ℕ → Type 0
IsSomeProgress premises units table marks standings ready current =
    (goal : List Lit) × IsProgress premises goal units table marks standings ready current

-- from progress but for one premise to progress
abbrev pub GoesOn : List (List Lit) → List (ℕ × ℕ) → List Occurrence → List Bool → List Standing → List ℕ → ℕ → List (ℕ × ℕ) → List Bool → List Standing →
    List ℕ → Type 0
GoesOn premises units table marks standings ready current new_units new_marks new_standings new_ready =
    (goal : List Lit) → IsProgress premises goal units table marks standings ready current
    → IsProgress premises goal new_units table new_marks new_standings new_ready (length premises)

-- all literals of the premise are false, or it goes on
abbrev pub Looks : Bool → List (List Lit) → List (ℕ × ℕ) → List Occurrence → List Bool → List Standing → List ℕ → ℕ → List (ℕ × ℕ) → List Bool →
    List Standing → List ℕ → Type 0
Looks true premises units table marks standings ready current new_units new_marks new_standings new_ready =
    (new_units ≡ units) × ((goal : List Lit) → IsProgress premises goal units table marks standings ready current →
    IsConflict premises (falses_of premises goal units) current)
Looks false premises units table marks standings ready current new_units new_marks new_standings new_ready =
    GoesOn premises units table marks standings ready current new_units new_marks new_standings new_ready
