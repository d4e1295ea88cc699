use Rattle.std.proofs.Common.{length, ◌-◌, ◌+◌, ◌≡◌, ◌≤◌, drop}
use Rattle.std.specs.List.{prefix_len}
use Rattle.std.specs.Char.{is_ascii_digit}
use Rattle.sexpr.proofs.numbers.digits_len.Given as goal

abbrev pub invariant-loop-len : goal.invariant-loop-len
invariant-loop-len l = record {
  within : l.len ≤ length l.word;
  same : l.len + prefix_len is_ascii_digit (drop l.len l.word) ≡ prefix_len is_ascii_digit l.word;
}

abbrev pub decreases-loop-len : goal.decreases-loop-len
decreases-loop-len l = length l.word - l.len
