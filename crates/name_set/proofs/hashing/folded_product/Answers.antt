-- The two halves of the product.
use Rattle.std.proofs.Common.{refl}
use Rattle.name_set.specs.Hashing.{folded_product}
use Rattle.name_set.proofs.hashing.folded_product.Goals as goal

pub returns : goal.returns
unfolding folded_product
returns c = refl
