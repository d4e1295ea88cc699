-- The bytes that are read are those of the half.
use Rattle.name_set.specs.Hashing.{half_at}
use Rattle.name_set.proofs.hashing.half_at.Goals as goal

pub returns : goal.returns
unfolding half_at
returns c = c.from_le_bytes.ensures
