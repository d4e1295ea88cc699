-- The products so far, of which there are few enough.
use Rattle.std.proofs.Common.{◌≡◌, ◌*◌, ◌^◌, ◌≤◌, ◌+ℤ◌, drop, unsigned_abs}
use Rattle.lia_filler.specs.Plain.{multiplied}
use Rattle.lia_filler.specs.Parts.{part_of}
use Rattle.lia_filler.proofs.multipliers.combine.Given as goal

abbrev pub invariant-loop-i : goal.invariant-loop-i
invariant-loop-i l = record {
  sums : l.sum +ℤ multiplied (part_of l.part) (drop l.i l.rows) (drop l.i l.multipliers) ≡ multiplied (part_of l.part) l.rows l.multipliers;
  small : unsigned_abs l.sum ≤ l.i * 2 ^ 123;
}
