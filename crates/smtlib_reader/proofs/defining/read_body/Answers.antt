use Rattle.std.proofs.Common.{◌∙◌, ap, drop}
use Rattle.std.proofs.lemmas.Result.{err_from_is_err_and}
use Rattle.std.proofs.Math.Seq.{drop-length}
use Rattle.text_items.specs.ItemsAt.{item_at}
use Rattle.smtlib_reader.specs.Defining.{within}
use Rattle.smtlib_reader.proofs.DefinedBodies.{ready_to_read, body_there}
use Rattle.smtlib_reader.proofs.defining.read_body.Goals as goal

pub read-requires-clause-idle : goal.read-requires-clause-idle
read-requires-clause-idle c = let (xs, sc, ready) = c.requires.ready in (sc, within xs, ready_to_read _ _ _ xs sc ready)

pub returns-in_err-value-clause-reads : goal.returns-in_err-value-clause-reads
returns-in_err-value-clause-reads c = λ xs sc ready.
    let p = err_from_is_err_and c.from_residual.result c.from_residual.ensures.1 in
    let h = c.in_err-value.ensures.reads sc (within xs) (ready_to_read _ _ _ xs sc ready) in
    rw (p.1, p.2) (record { answer = h.answer; placed = h.placed })

pub returns-clause-reads : goal.returns-clause-reads
returns-clause-reads c = λ xs sc ready.
    body_there _ _ xs (item_at c.args.items.now c.args.body) sc _ _ ready (c.in_ok-value.ensures.reads sc (within xs) (ready_to_read _ _ _ xs sc ready)) c.unbind.ensures.own
    (c.unbind.ensures.scope ∙ ap (λ n. drop n c.read.new.reader.names.scope) c.depth-count.ensures ∙ drop-length c.read.new.reader.names.scope)
