-- Private. What all items of a list have, each has that is there.
use Rattle.std.proofs.Common.{List, [], ◌∷◌, inl, inr, subst}
use Rattle.std.specs.List.{AllByRecursion, Contains}
use Rattle.term_model.proofs.Lists.{contains_cases, contains_none}

pub all_have : {X : Type 0} (P : X → Type 0) (xs : List X) (x : X) → AllByRecursion P xs → Contains xs x → P x
all_have P [] x h there = absurd (contains_none x there)
all_have P (y ∷ xs) x h there = elim (contains_cases y x xs there) [
  | inl e ↦ subst P e h.0
  | inr later ↦ all_have P xs x h.1 later
]
