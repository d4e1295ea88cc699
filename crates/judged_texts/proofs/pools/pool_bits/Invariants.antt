use Rattle.std.proofs.Common.{◌-◌, ◌*◌, ◌^◌, ◌<◌, ◌≤◌, ℕ}
use Rattle.judged_texts.proofs.pools.pool_bits.Given as goal

abbrev pub invariant-loop-bits : goal.invariant-loop-bits
invariant-loop-bits l = (12 ≤ l.bits) × (l.bits ≤ l.most_bits) × ((fewer : ℕ) → 12 ≤ fewer → fewer < l.bits → 4 * 2 ^ fewer < l.bytes)

abbrev pub decreases-loop-bits : goal.decreases-loop-bits
decreases-loop-bits l = l.most_bits - l.bits
