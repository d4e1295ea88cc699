-- No rule before has the word.
use Rattle.std.proofs.Common.{◌≡◌, ◌-◌, length, drop}
use Rattle.rule_model.specs.RuleNames.{rule_among, rule_named}
use Rattle.alethe_reader.proofs.rules.rule_named.Given as goal

abbrev pub invariant-rules : goal.invariant-rules
invariant-rules l = record { so_far : rule_among (drop l.k l.rules) l.name ≡ rule_named l.name }

abbrev pub decreases-rules : goal.decreases-rules
decreases-rules l = length l.rules - l.k
