-- Private. What a read adds to what is kept of a text.
use Rattle.std.specs.Prelude.{◌≡◌, ℕ, ◌≤◌, ◌<◌, List, ◌++◌, length, Option}
use Rattle.std.specs.Io.KnownBytes.{Consumes, IsAtEnd}

-- One read took n bytes off the front of what was left, and put them behind the old bytes. No byte of a piece
-- with room is the end.
pub record AddsPiece (before after : Option (List ℕ)) (old new : List ℕ) (room n : ℕ) : Type 0 where
  pub piece : List ℕ
  pub taken : Consumes before after piece
  pub added : new ≡ old ++ piece
  pub count : length piece ≡ n
  pub within : n ≤ room
  pub at_end : n ≡ 0 → 0 < room → IsAtEnd after
