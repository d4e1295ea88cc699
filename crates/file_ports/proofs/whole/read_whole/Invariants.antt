use Rattle.std.proofs.Common.{◌≡◌, ◌≤◌, ◌↔◌, List, ℕ, length, ◌-◌}
use Rattle.std.specs.Io.KnownBytes.{Consumes}
use Rattle.file_ports.proofs.whole.read_whole.Given as goal

-- The bytes so far were taken off the front of the file, and are no more than it may have.
abbrev pub invariant-pieces : goal.invariant-pieces
invariant-pieces g l = record {
  so_far : Consumes (g.F.Folder.content l.fn.folder l.path) (g.F.Folder.left l.folder l.file.0) l.bytes.items;
  within : length l.bytes.items ≤ 268435456;
  room : length l.piece.items ≡ 65536;
  is_open : g.F.Folder.is_open l.folder l.file.0;
  count : g.F.Folder.faults l.fn.folder ≤ g.F.Folder.faults l.folder;
  content : g.F.Folder.content l.folder ≡ g.F.Folder.content l.fn.folder;
  may_ask : (asked : List ℕ) → g.F.Folder.may_ask l.folder asked ↔ g.F.Folder.may_ask l.fn.folder asked;
}

abbrev pub decreases-pieces : goal.decreases-pieces
decreases-pieces g l = 268435457 - length l.bytes.items
