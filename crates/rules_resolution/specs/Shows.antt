-- Public. When a trail shows that a conclusion follows.
use Rattle.std.specs.Prelude.{◌≡◌, List, [], MatchOption}
use Rattle.rule_model.specs.Consequence.{Contradicts, Leads}
use Rattle.rule_model.specs.declared.literal.Literal.{Literal}
use Rattle.rules_resolution.specs.Trace.{Trace}

-- it names no premise where the conclusion contradicts itself
abbrev pub Shows : {A : Type 0} → List (List (Literal A)) → List (Literal A) → Trace → Type 0
Shows premises goal trail =
    MatchOption trail.last ((trail.units ≡ []) × Contradicts goal)
    (λ last. (Contradicts goal → ⊥) × Leads premises goal trail.units last)
