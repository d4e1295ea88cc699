-- Private. What a command runs with, and words that are read as those of another command.
use Rattle.std.specs.Prelude.{List, ◌∷◌, codes, drop}
use Rattle.command_words.specs.CommandLine.{Word}

-- the same words with `elaborate` in place of the first one
abbrev pub as_elaborate : List Word → List Word
as_elaborate words = codes "elaborate" ∷ drop 1 words
