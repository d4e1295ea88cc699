-- The length decides which bytes are read.
use Rattle.std.proofs.Common.{◌∙◌, ap, length}
use Rattle.std.specs.Int.{from_le_bytes, w64}
use Rattle.name_set.proofs.PackedNames.{high-short}
use Rattle.name_set.proofs.packing.high_half.Goals as goal

pub returns-then-len-lt8 : goal.returns-then-len-lt8
returns-then-len-lt8 c = c.from_le_bytes.ensures ∙ ap (from_le_bytes w64) (high-short (length c.args.name.now) c.args.name.now c.if-len-lt8.true)
