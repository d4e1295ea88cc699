-- Public. Which lines of a proof begin a command with an index.
use Rattle.std.specs.Prelude.{ℕ, Bool, ◌||◌, List, codes, take, bytes_eq, length}

abbrev pub begins_with : List ℕ → List ℕ → Bool
begins_with word line = bytes_eq (take (length word) line) word

-- an assume or a step: an anchor has no index of its own
unfoldable pub begins_command : List ℕ → Bool
begins_command line = begins_with (codes "(assume ") line || begins_with (codes "(step ") line
