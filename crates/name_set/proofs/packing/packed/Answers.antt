-- The number is that of the two halves.
use Rattle.std.proofs.Common.{◌∙◌, ◌+◌, ◌*◌, ◌^◌, ap, length}
use Rattle.std.specs.Int.{from_le_bytes, w64}
use Rattle.name_set.specs.Packing.{packed, high_bytes}
use Rattle.name_set.proofs.packing.packed.Goals as goal

pub returns : goal.returns
unfolding packed
returns c =
    ap (λ h. h * 2 ^ 64 + c.low_half-low.result) c.high_half-high.ensures
    ∙ ap (λ l. from_le_bytes w64 (high_bytes (length c.args.name.now) c.args.name.now) * 2 ^ 64 + l) c.low_half-low.ensures
