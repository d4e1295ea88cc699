-- Private. The commands that a list of names may have, by the ids that are in use.
use Rattle.std.specs.Prelude.{◌≡◌, ℕ, nat_le, nat_lt, Bool, true, false, ◌&&◌, if◌then◌else◌, List, find, bytes_eq, Option, Some, None, Result, Ok, Err, ⊤}
use Rattle.sexpr.specs.declared.causes.Cause.TheVariants.{NoStep}
use Rattle.sexpr.specs.declared.causes.Refusal.{Refusal}
use Rattle.rule_model.specs.Visibility.{Sight, sight}
use Rattle.text_items.specs.ItemShapes.{Name}
use Rattle.problem_text.specs.Outcomes.{done}
use Rattle.term_names.specs.Faults.{IsFaultOf}
use Rattle.term_names.specs.declared.faults.ReadFault.{ReadFault}
use Rattle.alethe_text.specs.Ids.{indices_of}
use Rattle.alethe_text.specs.States.{ProofState}
use Rattle.alethe_reader.specs.Ids.{Used, IsUnused, IsUsedAt}
use Rattle.alethe_reader.specs.declared.ids.Found.{Found}
use Rattle.alethe_reader.specs.declared.ids.Role.{Role}
use Rattle.alethe_reader.specs.declared.ids.Role.TheVariants.{Assume, Step, Anchor}
use Rattle.alethe_reader.specs.declared.premises.Reach.{Reach}

-- commands of this kind are meant
abbrev pub takes : Bool → Role → Bool
takes steps Assume = true
takes steps Step = steps
takes steps Anchor = false

-- the id is within reach
abbrev pub reaches : Reach → Found → Bool
reaches r f = (nat_le r.first f.place && nat_lt f.place r.end) && takes r.takes_steps f.role

-- Within reach are the ids of these commands.
pub record IsReach (used : List Used) (r : Reach) (sights : List Sight) : Type 0 where
  pub seen : (id : List ℕ) (f : Found) → IsUsedAt used id f → find (λ c. bytes_eq c.id id) sights ≡ (if reaches r f then Some (sight f.number id) else None)
  pub unseen : (id : List ℕ) → IsUnused used id → find (λ c. bytes_eq c.id id) sights ≡ None

-- the index of the command, or there is none
abbrev pub IsIndex : Option Sight → ℕ → Result ℕ Refusal → Type 0
IsIndex o place (Ok i) = (c : Sight) × (o ≡ Some c) × (c.index ≡ i)
IsIndex o place (Err refusal) = (o ≡ None) × (refusal ≡ record { cause = NoStep; at = place })

-- these are the indices of the commands with these names, or the first name is refused that is that of none
abbrev pub AreIndices : List Sight → List Name → ProofState → List ℕ → Result ⊤ ReadFault → Type 0
AreIndices sights ns p indices (Ok _) = indices_of sights ns p ≡ done indices p
AreIndices sights ns p indices (Err fault) = IsFaultOf (indices_of sights ns p).result fault
