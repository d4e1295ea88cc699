-- Private. What an end of propagation says.
use Rattle.std.specs.Prelude.{◌≡◌, ℕ, List, [], Option, Some, None}
use Rattle.rule_model.specs.Consequence.{Contradicts, Follows, Leads}
use Rattle.rule_model.specs.declared.literal.Literal.{Literal}
use Rattle.rules_resolution.specs.declared.end.End.{End}
use Rattle.rules_resolution.specs.Trace.{Trace}

-- what it says of premises and a conclusion, with these units
abbrev pub IsEnd : {A : Type 0} → End → List (List (Literal A)) → List (Literal A) → List (ℕ × ℕ) → Type 0
IsEnd End.Contradiction premises goal units = (units ≡ []) × Contradicts goal
IsEnd (End.Conflict last) premises goal units = (Contradicts goal → ⊥) × Leads premises goal units last
IsEnd End.Stuck premises goal units = Follows premises goal → ⊥

-- the trail with these units that shows what was found, where something was
abbrev pub trail_from : End → List (ℕ × ℕ) → Option Trace
trail_from End.Contradiction units = Some (record { units = units; last = None })
trail_from (End.Conflict last) units = Some (record { units = units; last = Some last })
trail_from End.Stuck units = None
