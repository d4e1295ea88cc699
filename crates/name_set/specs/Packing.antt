-- Private. How a name of up to fifteen bytes is packed into a number of sixteen.
use Rattle.std.specs.Prelude.{ℕ, ◌+◌, ◌*◌, ◌-◌, ◌/◌, ◌^◌, List, [], ◌∷◌, length, slice_index, nat_le, if◌then◌else◌}
use Rattle.std.specs.Int.{from_le_bytes, w64}

-- four bytes of a name, from a place on, in front of others
abbrev pub four_from : List ℕ → ℕ → List ℕ → List ℕ
four_from name k rest = slice_index name k ∷ slice_index name (k + 1) ∷ slice_index name (k + 2) ∷ slice_index name (k + 3) ∷ rest

-- the last eight bytes of a name of n bytes
abbrev pub last_eight : ℕ → List ℕ → List ℕ
last_eight n name = four_from name (n - 8) (four_from name (n - 4) [])

-- the first seven bytes of a name of n bytes, and n
abbrev pub first_seven : ℕ → List ℕ → List ℕ
first_seven n name = four_from name 0 (slice_index name 4 ∷ slice_index name 5 ∷ slice_index name 6 ∷ n ∷ [])

-- the first byte and the middle one of a name of n bytes, zeros, and the last one
abbrev pub first_middle_last : ℕ → List ℕ → List ℕ
first_middle_last n name = slice_index name 0 ∷ slice_index name (n / 2) ∷ 0 ∷ 0 ∷ 0 ∷ 0 ∷ 0 ∷ slice_index name (n - 1) ∷ []

-- the eight bytes of the low half for a name of n bytes: the last eight, or the first four and the last four, or the first,
-- the middle and the last one. The highest is the last byte of the name
unfoldable pub low_bytes : ℕ → List ℕ → List ℕ
low_bytes n name =
    if nat_le 8 n then last_eight n name else (if nat_le 4 n then four_from name 0 (four_from name (n - 4) []) else first_middle_last n name)

-- the eight bytes of the high half: the first seven, where there are eight and more, and the length
unfoldable pub high_bytes : ℕ → List ℕ → List ℕ
high_bytes n name = if nat_le 8 n then first_seven n name else (0 ∷ 0 ∷ 0 ∷ 0 ∷ 0 ∷ 0 ∷ 0 ∷ n ∷ [])

unfoldable pub packed : List ℕ → ℕ
packed name = from_le_bytes w64 (high_bytes (length name) name) * 2 ^ 64 + from_le_bytes w64 (low_bytes (length name) name)
