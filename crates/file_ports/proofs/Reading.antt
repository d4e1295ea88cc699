-- What one more read adds to what was read before.
use Rattle.std.proofs.Common.{◌≡◌, ◌∙◌, sym, ap, subst, length-append, ℕ, ◌+◌, List, length}
use Rattle.std.proofs.KnownBytes.{Consumes-trans}
use Rattle.std.specs.Io.KnownBytes.{Consumes}
use Rattle.std.specs.Prelude.{Option}
use Rattle.file_ports.specs.Pieces.{AddsPiece}

-- the bytes are more by as many as the read gave
pub longer-by_piece : (before after : Option (List ℕ)) (old new : List ℕ) (room n : ℕ) → AddsPiece before after old new room n → length new ≡ length old + n
longer-by_piece before after old new room n adds = ap length adds.added ∙ length-append old adds.piece ∙ ap (λ m. length old + m) adds.count

-- and all of them were taken off the front of the file
pub consumed-by_piece : (whole before after : Option (List ℕ)) (old new : List ℕ) (room n : ℕ) → Consumes whole before old → AddsPiece before after old new room n
    → Consumes whole after new
consumed-by_piece whole before after old new room n so_far adds = subst (Consumes whole after) (sym adds.added) (Consumes-trans whole before after old adds.piece so_far adds.taken)
