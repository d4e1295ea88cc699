use Rattle.std.proofs.Common.{◌+◌, sym, ◌∙◌, arith}
use Rattle.proof_prune.specs.Pruning.{state_of, job_of}
use Rattle.proof_prune.proofs.Putting.{noted, count_fits, counts_kept, counts_dropped}
use Rattle.proof_prune.proofs.pruning.write_one.Goals as goal

pub overflow_add-written : goal.overflow_add-written
overflow_add-written c =
    let fits = count_fits (job_of c.args.parts.now) c.requires.job c.args.i (state_of c.args.written.now) c.requires.at_line (state_of c.put.new.written) c.in_ok-put.ensures in omega arith

pub returns-then-is_marked : goal.returns-then-is_marked
returns-then-is_marked c =
    let job = job_of c.args.parts.now in
    let s = state_of c.args.written.now in
    let t = state_of c.put.new.written in
    noted job c.requires.job c.args.i s c.requires.at_line t c.in_ok-put.ensures (c.put.new.written.count + 1)
    (counts_kept job c.requires.job c.args.i s c.requires.at_line t c.in_ok-put.ensures (sym c.is_marked.ensures ∙ c.if-is_marked.true)) c.push.new.self.items c.in_ok-push.ensures.items

pub returns-else-is_marked : goal.returns-else-is_marked
returns-else-is_marked c =
    let job = job_of c.args.parts.now in
    let s = state_of c.args.written.now in
    let t = state_of c.put.new.written in
    noted job c.requires.job c.args.i s c.requires.at_line t c.in_ok-put.ensures c.put.new.written.count
    (counts_dropped job c.requires.job c.args.i s c.requires.at_line t c.in_ok-put.ensures (sym c.is_marked.ensures ∙ c.if-is_marked.false)) c.push.new.self.items c.in_ok-push.ensures.items
