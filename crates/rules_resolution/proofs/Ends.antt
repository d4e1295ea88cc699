-- What an end of propagation says.
use Rattle.std.proofs.Common.{◌≡◌, inl, inr, refl, ℕ, IfSome, IfNone, List}
use Rattle.std.specs.Prelude.{OnSome}
use Rattle.rule_model.specs.declared.literal.Literal.{Literal}
use Rattle.rule_model.specs.Consequence.{Follows}
use Rattle.rule_model.specs.Literals.{Entails}
use Rattle.rule_model.proofs.Consequence.{consequence_sound}
use Rattle.rules_resolution.specs.declared.end.End.{End}
use Rattle.rules_resolution.specs.Ends.{IsEnd, trail_from}
use Rattle.rules_resolution.specs.Literal.{Lit}
use Rattle.rules_resolution.specs.Shows.{Shows}

-- what the trail of an end shows, and that there is none only where nothing follows
pub shown_by_end : {A : Type 0} (ps : List (List (Literal A))) (g : List (Literal A)) (units : List (ℕ × ℕ)) (end : End) → IsEnd end ps g units → IfSome (trail_from end units) (Shows ps g)
shown_by_end ps g units End.Contradiction is = is
shown_by_end ps g units (End.Conflict last) is = is
shown_by_end ps g units End.Stuck is = tt

pub none_by_end : {A : Type 0} (ps : List (List (Literal A))) (g : List (Literal A)) (units : List (ℕ × ℕ)) (end : End) → IsEnd end ps g units → IfNone (trail_from end units) (Follows ps g → ⊥)
none_by_end ps g units End.Contradiction is = tt
none_by_end ps g units (End.Conflict last) is = tt
none_by_end ps g units End.Stuck is = is

-- an end with something found
pub follows_by_end : {A : Type 0} (ps : List (List (Literal A))) (g : List (Literal A)) (units : List (ℕ × ℕ)) (end : End) → IsEnd end ps g units → (end ≡ End.Stuck → ⊥) → Follows ps g
follows_by_end ps g units End.Contradiction is found = inl is.1
follows_by_end ps g units (End.Conflict last) is found = inr (units, last, is.1)
follows_by_end ps g units End.Stuck is found = absurd (found refl)

pub sound_by_end : (ps : List (List Lit)) (g : List Lit) (units : List (ℕ × ℕ)) (end : End) → IsEnd end ps g units → OnSome (trail_from end units) (Entails ps g)
sound_by_end ps g units End.Contradiction is = consequence_sound ps g (inl is.1)
sound_by_end ps g units (End.Conflict last) is = consequence_sound ps g (inr (units, last, is.1))
sound_by_end ps g units End.Stuck is = tt
