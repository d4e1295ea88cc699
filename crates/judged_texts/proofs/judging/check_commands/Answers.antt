use Rattle.std.proofs.lemmas.Result.{IfOk-weaker, IfErr-weaker}
use Rattle.judged_texts.proofs.judging.check_commands.Goals as goal

pub returns-clause-statuses : goal.returns-clause-statuses
returns-clause-statuses g c =
    let job = c.args.job.now in
    IfOk-weaker c.run-made.result _ _ (λ pieces all.
    c.chunks_make_a_check.ensures.statuses job.flags job.symbols.now c.args.terms.now c.run-made.new.terms job.problem.now.assertions job.proof.now pieces.items
    c.leaves_differ.ensures.table c.one_to_one.ensures c.run-made.ensures.keeps all) c.run-made.ensures.pieces

pub returns-clause-placed : goal.returns-clause-placed
returns-clause-placed g c =
    let job = c.args.job.now in
    c.chunks_make_a_check.ensures.placed job.symbols.now c.args.terms.now c.run-made.new.terms job.proof.now
    c.leaves_differ.ensures.table c.one_to_one.ensures c.run-made.ensures.keeps c.run-made.ensures.placed

pub returns-clause-full : goal.returns-clause-full
returns-clause-full g c =
    let job = c.args.job.now in
    IfErr-weaker c.run-made.result _ _ (λ stop lacks is.
    c.chunks_make_a_check.ensures.full job.symbols.now c.args.terms.now c.run-made.new.terms job.proof.now
    c.leaves_differ.ensures.table c.one_to_one.ensures c.run-made.ensures.keeps (lacks is)) c.run-made.ensures.full
