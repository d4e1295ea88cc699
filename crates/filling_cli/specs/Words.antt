-- Public. Which words spell `fill`: it has the operands and the options of `elaborate`.
use Rattle.std.specs.Prelude.{List, [], ◌∷◌, Bool, false, Option, None, Some, if◌then◌else◌, bytes_eq, codes}
use Rattle.command_words.specs.CommandLine.{Asked, Word, asked_behind}
use Rattle.command_words.specs.declared.request.Command.TheVariants.{Elaborate}

-- the first word is `fill`
abbrev pub begins_fill : List Word → Bool
begins_fill [] = false
begins_fill (word ∷ words) = bytes_eq word (codes "fill")

-- what they ask for: what `elaborate` does with the same words behind it
abbrev pub fill_of : List Word → Option Asked
fill_of [] = None
fill_of (word ∷ words) = if bytes_eq word (codes "fill") then asked_behind (Some Elaborate) words else None
