-- One column more, or a fifth.
use Rattle.std.proofs.Common.{◌≡◌, false, map, subst, take, sym, ap}
use Rattle.lia_rows.specs.Columns.{IsColumnAdded, AreAdded}
use Rattle.lia_rows.specs.Forms.{term_of}
use Rattle.lia_rows.proofs.CoefLemmas.{terms_more, terms_within}
use Rattle.lia_rows.proofs.ColumnLemmas.{five, one_added}
use Rattle.lia_rows.proofs.columns.add_columns.Goals as goal

pub returns-then-not-added : goal.returns-then-not-added
returns-then-not-added c =
    let cs = c.args.found.now in
    let x = c.c-item.result in
    five c.args.columns.now.items (map term_of (take c.found.c-index cs)) c.found.columns.items c.add_column.new.columns.items (map term_of cs) x.term c.found.invariant
    (subst (IsColumnAdded c.found.columns.items x.term c.add_column.new.columns.items) c.if-not-added.true c.in_ok-added.ensures)
    (terms_within cs c.found.c-index x c.found-test.true c.c-item.is)

pub found-preserved : goal.found-preserved
found-preserved c =
    let cs = c.args.found.now in
    let x = c.c-item.result in
    subst (λ rs. AreAdded c.args.columns.now.items rs c.add_column.new.columns.items) (sym (terms_more cs c.found.c-index x c.found-test.true c.c-item.is))
    (one_added c.args.columns.now.items (map term_of (take c.found.c-index cs)) c.found.columns.items c.add_column.new.columns.items x.term c.found.invariant
    (subst (IsColumnAdded c.found.columns.items x.term c.add_column.new.columns.items) c.if-not-added.false c.in_ok-added.ensures))
