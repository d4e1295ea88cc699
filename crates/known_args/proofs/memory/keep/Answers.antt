use Rattle.std.proofs.Common.{◌∷◌, sym, subst}
use Rattle.known_args.specs.Rows.{AreRows}
use Rattle.known_args.proofs.RowLemmas.{some_kept, one_more}
use Rattle.known_args.proofs.memory.keep.Goals as goal

pub returns-in_err-insert : goal.returns-in_err-insert
returns-in_err-insert c v right =
    subst (AreRows v) (sym c.in_err-insert.ensures.items)
    (subst (AreRows v) (sym c.truncate.ensures.items) (some_kept v c.args.row c.args.kept.now.items right 7))

pub returns : goal.returns
returns c v right =
    subst (AreRows v) (sym c.in_ok-insert.ensures.items)
    (subst (λ rows. AreRows v (c.args.row ∷ rows)) (sym c.truncate.ensures.items) (one_more v c.args.row c.args.kept.now.items right 7))
