use Rattle.step_check.proofs.ChunkLemmas.{can_extend, chunk_extends, placed_extends}
use Rattle.step_check.proofs.chunks.StepJobJob.more_may_be_known.Goals as goal

pub returns-clause-fits : goal.returns-clause-fits
returns-clause-fits c old new more h = can_extend c.args.self.now.symbols.now old new more c.args.self.now.problem.now.assertions c.args.self.now.proof.now h

pub returns-clause-says : goal.returns-clause-says
returns-clause-says c old new k piece more h =
    chunk_extends c.args.self.now.symbols.now old new more c.args.self.now.flags c.args.self.now.problem.now.assertions c.args.self.now.proof.now k piece.items h

pub returns-clause-places : goal.returns-clause-places
returns-clause-places c old new t more h = placed_extends c.args.self.now.symbols.now old new more c.args.self.now.proof.now t h
