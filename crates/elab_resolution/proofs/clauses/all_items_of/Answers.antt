use Rattle.std.proofs.Common.{take}
use Rattle.std.proofs.lemmas.List.{take_more}
use Rattle.term_model.proofs.Zips.{zip_push}
use Rattle.elab_resolution.specs.Loaded.{AreItemsOf}
use Rattle.elab_resolution.proofs.clauses.all_items_of.Goals as goal

pub clauses-preserved : goal.clauses-preserved
clauses-preserved c =
    let i = c.clauses.clause-index in
    let r = c.clause-item.result in
    rw (take_more c.args.clauses.now i r c.clauses-test.true, ← c.clause-item.is, c.in_ok-push.ensures.items)
    (zip_push (AreItemsOf c.args.numbering.now) (take i c.args.clauses.now) c.clauses.list.items r c.in_ok-items_of.field-0 c.clauses.invariant
    c.in_ok-items_of.ensures)
