use Rattle.std.proofs.Common.{◌≡◌, ◌++◌, take}
use Rattle.filled_texts.specs.Printed.{lines_where}
use Rattle.filled_texts.proofs.printing.add_lines.Given as goal

-- the lines of the first holes
abbrev pub invariant-holes : goal.invariant-holes
invariant-holes l = l.text.items ≡ l.fn.text.items ++ lines_where l.which (take l.i l.holes) (take l.i l.filled)
