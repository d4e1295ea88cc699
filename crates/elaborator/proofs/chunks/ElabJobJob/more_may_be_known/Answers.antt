use Rattle.std.specs.Prelude.{◌+◌, ◌*◌}
use Rattle.elaborator.proofs.chunks.ElabJobJob.more_may_be_known.Goals as goal

pub returns-clause-says : goal.returns-clause-says
returns-clause-says g c old new k piece more h = record {
  count_is = h.count_is;
  each = λ i b e. c.more_may_be_known.ensures.says c.args.self.now.proof.now old new (64 * k + i) b more (h.each i b e);
}
