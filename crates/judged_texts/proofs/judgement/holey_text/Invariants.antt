use Rattle.std.proofs.Common.{◌≡◌, ◌++◌, drop}
use Rattle.std.specs.List.{flat_map}
use Rattle.judged_texts.specs.Printed.{hole_line, holey_text}
use Rattle.judged_texts.proofs.judgement.holey_text.Given as goal

abbrev pub invariant-holes : goal.invariant-holes
invariant-holes l = l.text.items ++ flat_map hole_line (drop l.hole-index l.holes) ≡ holey_text l.holes
