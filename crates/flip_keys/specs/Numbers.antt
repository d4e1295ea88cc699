-- Private. Lists whose places are numbers.
use Rattle.std.specs.Prelude.{◌≡◌, ℕ, List, slice_get, Some}

-- the item of this number
abbrev pub IsNumberedAt : {X : Type 0} → List X → ℕ → X → Type 0
IsNumberedAt xs k x = slice_get xs k ≡ Some x

-- what has a number keeps it
abbrev pub KeepsNumbers : {X : Type 0} → List X → List X → Type 0
KeepsNumbers {X} old new = (k : ℕ) (x : X) → IsNumberedAt old k x → IsNumberedAt new k x
