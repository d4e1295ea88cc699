use Rattle.std.proofs.Common.{◌<◌, ℕ}
use Rattle.chain_plan.specs.Contradicting.{IsMarkedPair}
use Rattle.chain_plan.proofs.opposites.marked_pair.Given as goal

abbrev pub invariant-numbers : goal.invariant-numbers
invariant-numbers l = (k : ℕ) → k < l.number → IsMarkedPair l.spellings l.marks k → ⊥
