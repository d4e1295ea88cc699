-- The hash of all but the last byte is a folded product.
use Rattle.name_set.specs.Hashing.{key_hash, shared_hash, last_byte_hash}
use Rattle.name_set.proofs.hashing.key_hash.Goals as goal

pub returns : goal.returns
unfolding key_hash shared_hash last_byte_hash
returns c = rw c.folded_product-shared.ensures
