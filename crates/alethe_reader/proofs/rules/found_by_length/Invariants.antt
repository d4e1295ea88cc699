-- The rules that are gone through have words.
use Rattle.std.proofs.Common.{◌≡◌, true}
use Rattle.std.specs.List.{list_all}
use Rattle.alethe_reader.specs.RuleLengths.{has_word}
use Rattle.alethe_reader.proofs.rules.found_by_length.Given as goal

abbrev pub invariant-rules : goal.invariant-rules
invariant-rules l = record { worded : list_all has_word l.rules ≡ true }
