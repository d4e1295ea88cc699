-- Private. How the parts of a scope are linked. Variables are listed with the innermost first; one stands at the place that is
-- the number of those outside it.
use Rattle.std.specs.Prelude.{◌≡◌, ℕ, ◌+◌, ◌<◌, ◌==◌, if◌then◌else◌, List, [], ◌∷◌, length, map, slice_index_or, slice_index}
use Rattle.term_names.specs.declared.names.Held.{Held}
use Rattle.term_names.specs.Scope.{Scoped}

abbrev pub scoped_held : List (List ℕ) → Held → Scoped
scoped_held names h = record { name = slice_index_or names h.name []; bound = h.bound }

abbrev pub scoped : List (List ℕ) → List Held → List Scoped
scoped names held = map (scoped_held names) held

-- where the innermost variable with the name of this number stands, counted from 1, or 0 where there is none
abbrev pub innermost_held : ℕ → List Held → ℕ
innermost_held k [] = 0
innermost_held k (h ∷ held) = if h.name == k then length held + 1 else innermost_held k held

-- each variable has the number of one of so many names, and knows the next outer one of its name
abbrev pub AreHeld : ℕ → List Held → Type 0
AreHeld n [] = Unit {0}
AreHeld n (h ∷ held) = (h.name < n) × (h.outer ≡ innermost_held h.name held) × AreHeld n held

pub record IsHeldLinked (names : List (List ℕ)) (firsts : List ℕ) (held : List Held) : Type 0 where
  pub one_each : length names ≡ length firsts
  pub outer : AreHeld (length names) held
  pub tops : (k : ℕ) → k < length names → slice_index firsts k ≡ innermost_held k held
