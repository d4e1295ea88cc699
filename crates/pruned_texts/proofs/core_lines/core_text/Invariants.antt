use Rattle.std.proofs.Common.{◌≡◌, ◌++◌, drop}
use Rattle.std.specs.List.{flat_map}
use Rattle.pruned_texts.specs.Needed.{assertion_line, core_text}
use Rattle.pruned_texts.proofs.core_lines.core_text.Given as goal

abbrev pub invariant-numbers : goal.invariant-numbers
invariant-numbers l = l.text.items ++ flat_map assertion_line (drop l.number-index l.numbers) ≡ core_text l.numbers
