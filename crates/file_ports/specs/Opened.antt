-- Private. An open file of a folder in memory, and the place up to which it was read.
use Rattle.std.specs.Prelude.{ℕ, ◌<◌, ◌≤◌, List, [], length, map, drop, slice_index_or}
use Rattle.file_ports.specs.declared.memory_folder.Opened.{Opened}

-- the bytes of the file at a place of the list
abbrev pub bytes_of : List (List ℕ × List ℕ) → ℕ → List ℕ
bytes_of files k = (slice_index_or files k ([], [])).1

-- what is left to read of an open file
abbrev pub rest_of : List (List ℕ × List ℕ) → Opened → List ℕ
rest_of files opened = drop opened.place (bytes_of files opened.file)

-- what is left to read of each open file, by its number
abbrev pub rests_of : List (List ℕ × List ℕ) → List Opened → List (List ℕ)
rests_of files opened = map (rest_of files) opened

-- the open file is one of these files, and its place is within it
pub record IsWithin (files : List (List ℕ × List ℕ)) (opened : Opened) : Type 0 where
  pub file : opened.file < length files
  pub place : opened.place ≤ length (bytes_of files opened.file)
