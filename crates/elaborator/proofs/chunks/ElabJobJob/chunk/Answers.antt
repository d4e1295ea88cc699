use Rattle.std.specs.Prelude.{map}
use Rattle.rule_model.specs.Scopes.{commands_in}
use Rattle.elaborator.proofs.MadeBlocks.{made_chunk}
use Rattle.elaborator.proofs.chunks.ElabJobJob.chunk.Goals as goal

pub returns-in-Ok-clause-says : goal.returns-in-Ok-clause-says
returns-in-Ok-clause-says g c =
    let job = c.args.self.now in
    made_chunk (g.E.Elaborate.says job.elaborate.now job.proof.now c.blocks_by.new.terms) (commands_in job.proof.now) c.args.k c.range_of-first.result.0
    c.range_of-first.result.1 (map (λ block. block.items) c.in-Ok.blocks.items) c.range_of-first.ensures.first (rw c.count.ensures.count at c.range_of-first.ensures.size)
    c.in-Ok.ensures.made
