use Rattle.std.proofs.Common.{length, ◌-◌, ◌+◌, ◌≡◌, ◌≤◌, drop}
use Rattle.std.specs.List.{prefix_len}
use Rattle.sexpr.specs.Characters as characters
use Rattle.sexpr.proofs.scan.last_word_end.Given as goal

abbrev pub invariant-loop-place : goal.invariant-loop-place
invariant-loop-place l = record {
  after : l.at ≤ l.place;
  within : l.place ≤ length l.bytes;
  same : l.place + prefix_len characters.is_word_byte (drop l.place l.bytes) ≡ l.at + prefix_len characters.is_word_byte (drop l.at l.bytes);
}

abbrev pub decreases-loop-place : goal.decreases-loop-place
decreases-loop-place l = length l.bytes - l.place
