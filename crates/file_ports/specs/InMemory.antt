-- Public. What the objects in memory are: files, two texts, and the bytes written.
use Rattle.std.specs.Prelude.{◌==◌, ◌⊎◌, IsNone, ℕ, List, [], ◌∷◌, slice_get, map, Option, None, Some, String, Vec, string_bytes, codes, if◌then◌else◌}
use Rattle.std.specs.Str.{bytes_eq}
use Rattle.std.specs.declared.alloc.Global.{Global}
use Rattle.file_ports.specs.Schedule.{Calls, FailsNext}

-- a sink in memory: what was written, the most bytes that one write takes, and its calls
pub record MemorySinkState : Type 0 where
  pub written : List ℕ
  pub most : ℕ
  pub calls : Calls

-- A folder in memory: each path with its bytes, what is left of each file that was opened, by its number, the most
-- bytes that one read gives, and its calls.
pub record MemoryFolderState : Type 0 where
  pub files : List (List ℕ × List ℕ)
  pub left : List (List ℕ)
  pub most : ℕ
  pub calls : Calls

-- the bytes of the first file with a path
abbrev pub bytes_at : List (List ℕ × List ℕ) → List ℕ → Option (List ℕ)
bytes_at [] path = None
bytes_at (file ∷ files) path = (if bytes_eq file.0 path then Some file.1 else bytes_at files path)

-- files as they are handed in
abbrev pub files_of : List (String Global × Vec ℕ Global) → List (List ℕ × List ℕ)
files_of files = map (λ file. (string_bytes file.0, file.1.items)) files

-- what a folder in memory tells of a path
abbrev pub bytes_told : MemoryFolderState → List ℕ → Option (List ℕ)
bytes_told s path = bytes_at s.files path

-- an open of a path is a fault: it is one of the calls that fail, or the path is absent
abbrev pub IsFaultAt : MemoryFolderState → List ℕ → Type 0
IsFaultAt s path = FailsNext s.calls ⊎ IsNone (bytes_told s path)

-- what is left of the file with a number
abbrev pub rest_told : MemoryFolderState → ℕ → Option (List ℕ)
rest_told s number = slice_get s.left number

-- Two texts, each with what is left to read of it.
pub record SteadyFolderState : Type 0 where
  pub problem : List ℕ
  pub proof : List ℕ
  pub problem_left : List ℕ
  pub proof_left : List ℕ

-- the path of the first text
abbrev pub problem_path : List ℕ
problem_path = codes "problem"

-- the number of the text that stands at a path
abbrev pub number_at : List ℕ → ℕ
number_at path = (if bytes_eq path problem_path then 0 else 1)

-- the text that stands at a path
abbrev pub text_at : SteadyFolderState → List ℕ → List ℕ
text_at s path = (if bytes_eq path problem_path then s.problem else s.proof)

-- what a folder of two texts tells of a path
abbrev pub text_told : SteadyFolderState → List ℕ → Option (List ℕ)
text_told s path = Some (text_at s path)

-- what is left of the text with a number
abbrev pub left_of : SteadyFolderState → ℕ → Option (List ℕ)
left_of s number = (if number == 0 then Some s.problem_left else (if number == 1 then Some s.proof_left else None))
