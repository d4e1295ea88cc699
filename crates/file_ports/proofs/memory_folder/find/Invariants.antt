use Rattle.std.proofs.Common.{◌≡◌, drop}
use Rattle.file_ports.specs.InMemory.{bytes_at, files_of}
use Rattle.file_ports.proofs.memory_folder.find.Given as goal

-- The path is looked for among the files that are left.
abbrev pub invariant-loop-k : goal.invariant-loop-k
invariant-loop-k l = bytes_at (files_of l.files) l.path ≡ bytes_at (drop l.k (files_of l.files)) l.path
