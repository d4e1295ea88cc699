-- Private. What a list of bindings puts in for a leaf: the first that it has.
use Rattle.std.specs.Prelude.{ℕ, List, [], ◌∷◌, ◌==◌, Option, Some, None, if◌then◌else◌}

abbrev pub first_for : List (ℕ × ℕ) → ℕ → Option ℕ
first_for [] k = None
first_for (b ∷ bs) k = if b.0 == k then Some b.1 else first_for bs k
