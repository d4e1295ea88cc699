use Rattle.elaborator.specs.Reached.{state_of, job_of}
use Rattle.elaborator.proofs.WritingCalls.{within_now, block_now}
use Rattle.elaborator.proofs.writing.stand.Goals as goal

pub block-requires : goal.block-requires
block-requires c = block_now (job_of c.args.parts.now) c.requires.job c.args.i (state_of c.args.written.now) c.requires.at_line

pub rule-requires : goal.rule-requires
rule-requires c = within_now (job_of c.args.parts.now) c.requires.job c.args.i (state_of c.args.written.now) c.requires.at_line
