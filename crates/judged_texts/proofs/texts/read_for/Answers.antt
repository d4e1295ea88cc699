use Rattle.judged_texts.proofs.PoolLemmas.{read_by_many}
use Rattle.judged_texts.proofs.texts.read_for.Goals as goal

pub returns-clause-read : goal.returns-clause-read
returns-clause-read c =
    let t = c.args.texts.now in
    rw c.in-Ok.ensures.view
    (read_by_many c.read_into.new.symbols c.in_ok-read.pass.view c.args.pool.now c.share_among.new.pool t.problem.now t.options t.proof.now c.in_ok-read.read
    c.in_ok-read.ensures.read)
