-- The length takes the place of the eighth byte.
use Rattle.std.proofs.Common.{◌∙◌, ◌+◌, ◌*◌, ◌%◌, ◌^◌, ap, length, arith}
use Rattle.std.specs.Int.{from_le_bytes, w64}
use Rattle.name_set.specs.Keys.{AreBytes}
use Rattle.name_set.proofs.PackedNames.{high-seven, seven_and_length}
use Rattle.name_set.proofs.packing.first_seven.Goals as goal

pub returns : goal.returns
returns c =
    let bytes : AreBytes c.args.name.now = record { byte = λ i. omega (arith, c.type_inv.name i) } in
    let n = length c.args.name.now in
    ap (λ e. e % 2 ^ 56 + n * 2 ^ 56) c.from_le_bytes-first_eight.ensures
    ∙ seven_and_length n c.args.name.now bytes
    ∙ ap (from_le_bytes w64) (high-seven n c.args.name.now c.requires.at_least)
