use Rattle.std.proofs.Common.{length, ◌-◌, ◌≡◌, ◌≤◌, drop, false}
use Rattle.sexpr.specs.Tokens as spec
use Rattle.sexpr.proofs.scan.token_start.Given as goal

abbrev pub invariant-loop-place : goal.invariant-loop-place
invariant-loop-place l = record {
  after : l.at ≤ l.place;
  within : l.place ≤ length l.bytes;
  same : spec.blanks_end false l.at (drop l.at l.bytes) ≡ spec.blanks_end false l.place (drop l.place l.bytes);
}

abbrev pub decreases-loop-place : goal.decreases-loop-place
decreases-loop-place l = length l.bytes - l.place
