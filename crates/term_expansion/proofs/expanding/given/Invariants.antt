use Rattle.std.proofs.Common.{◌≡◌, ℕ, List, length, take}
use Rattle.term_expansion.specs.Expanding.{AreValuesGiven}
use Rattle.term_expansion.specs.Needs.{AreValuesOf}
use Rattle.term_expansion.proofs.expanding.given.Given as goal

abbrev pub invariant-leaves : goal.invariant-leaves
invariant-leaves l =
    ((ks rs : List ℕ) → AreValuesOf l.values ks rs → AreValuesGiven (take l.k-index l.leaves) ks rs l.given.variables.items l.given.values.items)
    × (length l.given.variables.items ≡ length l.given.values.items)
