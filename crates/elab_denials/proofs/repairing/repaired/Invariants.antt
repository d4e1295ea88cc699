use Rattle.std.proofs.Common.{◌*◌, drop}
use Rattle.elab_denials.specs.Owing.{IsOwing}
use Rattle.elab_denials.specs.Working.{IsDone, Went}
use Rattle.elab_denials.proofs.repairing.repaired.Given as goal

abbrev pub invariant-places : goal.invariant-places
invariant-places l = record {
  went : Went l.at l.fn.terms l.terms;
  done : IsDone l.at l.terms l.fn.work l.work (4 * l.place);
  owing : IsOwing l.at l.terms l.work.block l.last (drop l.place l.owed.pairs.now);
}
