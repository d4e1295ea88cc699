-- The length decides which bytes are read.
use Rattle.std.proofs.Common.{◌∙◌, ap, length}
use Rattle.std.specs.Int.{from_le_bytes, w64}
use Rattle.name_set.proofs.PackedNames.{low-three, low-nothing}
use Rattle.name_set.proofs.packing.first_middle_last.Goals as goal

pub returns-then-len-eq0 : goal.returns-then-len-eq0
returns-then-len-eq0 c = low-nothing c.args.name.now c.if-len-eq0.true

pub returns : goal.returns
returns c = c.from_le_bytes.ensures ∙ ap (from_le_bytes w64) (low-three (length c.args.name.now) c.args.name.now c.requires)
