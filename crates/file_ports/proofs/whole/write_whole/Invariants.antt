use Rattle.std.proofs.Common.{length, take, ◌-◌, ◌≤◌}
use Rattle.std.specs.Io.KnownBytes.{Appends}
use Rattle.file_ports.proofs.whole.write_whole.Given as goal

-- The sink took the text up to `done`.
abbrev pub invariant-writes : goal.invariant-writes
invariant-writes g l = record {
  so_far : Appends (g.S.Sink.written l.fn.out) (g.S.Sink.written l.out) (take l.done l.text);
  within : l.done ≤ length l.text;
  count : g.S.Sink.faults l.fn.out ≤ g.S.Sink.faults l.out;
}

abbrev pub decreases-writes : goal.decreases-writes
decreases-writes g l = length l.text - l.done
