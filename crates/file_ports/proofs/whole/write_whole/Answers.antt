use Rattle.std.proofs.Common.{arith}
use Rattle.std.proofs.lemmas.Grind.{common_steps}
use Rattle.file_ports.proofs.Writing.{Appends-rest}
use Rattle.file_ports.proofs.whole.write_whole.Goals as goal

pub writes-preserved : goal.writes-preserved
writes-preserved g c = record {
  so_far = Appends-rest _ _ _ _ _ _ c.writes.invariant.so_far c.in_ok-n.ensures.bytes;
  within = grind (arith, common_steps);
  count = omega arith;
}
