-- Private. Lists of references as tables.
use Rattle.std.specs.Prelude.{◌<◌, ◌++◌, ℕ, List, [], ◌∷◌, length}
use Rattle.rule_model.specs.Resolution.{IsFirstsOf}

-- where there are many references, the table has each once, in the order in which they come first
abbrev pub HasTable : List ℕ → List ℕ → Type 0
HasTable items keys = 32 < length items → IsFirstsOf [] items keys

-- what had each item of a list once has each item of the list and of this one more
abbrev pub AddsItem : List ℕ → List ℕ → ℕ → Type 0
AddsItem old new r = (items : List ℕ) → IsFirstsOf [] items old → IsFirstsOf [] (items ++ r ∷ []) new
