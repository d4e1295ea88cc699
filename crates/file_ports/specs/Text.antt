-- Private. A text of a folder of two texts, and the place up to which it was read.
use Rattle.std.specs.Prelude.{ℕ, List, drop}
use Rattle.file_ports.specs.declared.steady_folder.Text.{Text}

-- what is left to read of a text
abbrev pub left_in : Text → List ℕ
left_in text = drop text.place text.bytes.items
