-- Private. What a `NameHasher` computes.
use Rattle.std.specs.Prelude.{ℕ, ◌+◌, ◌*◌, ◌/◌, ◌%◌, ◌^◌, List, [], length, if◌then◌else◌, nat_eq, bit_xor}
use Rattle.std.specs.Int.{from_le_bytes, w64}
use Rattle.name_set.specs.declared.hashing.NameHasher.{NameHasher}
use Rattle.name_set.specs.Packing.{four_from}

-- the eight bytes from k on as a number, the lowest first
unfoldable pub half_at : ℕ → List ℕ → ℕ
half_at k bytes = from_le_bytes w64 (four_from bytes k (four_from bytes (k + 4) []))

-- the two halves of the 128 bits of a * b, joined by xor
unfoldable pub folded_product : ℕ → ℕ → ℕ
folded_product a b = bit_xor (a * b % 2 ^ 64) (a * b / 2 ^ 64)

-- the hash of what lies in the halves but for the highest byte of the low one
unfoldable pub shared_hash : ℕ → ℕ → ℕ
shared_hash low high = folded_product (low % 2 ^ 56 + 0x243f_6a88_85a3_08d3) ((high + 0x9e37_79b9_7f4a_7c15) % 2 ^ 64)

-- what the highest byte of the low half changes: the tag, and by its lowest bit the choice between two groups
unfoldable pub last_byte_hash : ℕ → ℕ
last_byte_hash low = low / 2 ^ 56 * 2 ^ 24 + low / 2 ^ 56 % 2

-- the hash of a key with these halves
unfoldable pub key_hash : ℕ → ℕ → ℕ
key_hash low high = bit_xor (shared_hash low high) (last_byte_hash low)

-- the hasher after `write(bytes)`: only the sixteen bytes of a key are hashed
unfoldable pub after_write : NameHasher → List ℕ → NameHasher
after_write h bytes = record { state = if nat_eq (length bytes) 16 then key_hash (half_at 0 bytes) (half_at 8 bytes) else h.state }
