-- Public. What a whole reading and a whole writing do to bytes that are told.
use Rattle.std.specs.Prelude.{◌≡◌, ℕ, ◌≤◌, ◌<◌, List, length, take, Option, None, Some, ⊤}
use Rattle.std.specs.Io.KnownBytes.{Appends}

-- the bytes are those that are told, where some are
abbrev pub AreTold : Option (List ℕ) → List ℕ → Type 0
AreTold None bytes = ⊤
AreTold (Some told) bytes = bytes ≡ told

-- more bytes than `most` are told, where some are
abbrev pub IsLongerThan : ℕ → Option (List ℕ) → Type 0
IsLongerThan most None = ⊤
IsLongerThan most (Some told) = most < length told

-- known bytes grow by some beginning of the text
abbrev pub AppendsPrefix : Option (List ℕ) → Option (List ℕ) → List ℕ → Type 0
AppendsPrefix old new text = (n : ℕ) × (n ≤ length text) × Appends old new (take n text)
