use Rattle.std.proofs.Common.{◌≡◌}
use Rattle.pruned_texts.proofs.needing.print_needed.Given as goal

-- nothing was written so far
abbrev pub invariant-pools : goal.invariant-pools
invariant-pools g l = record {
  written : g.S.Sink.written l.out ≡ g.S.Sink.written l.fn.out;
  faults : g.S.Sink.faults l.out ≡ g.S.Sink.faults l.fn.out;
}
