use Rattle.std.proofs.Common.{◌++◌, append_assoc, sym, ap}
use Rattle.rules_resolution.proofs.Tables.{occurrences_of-more}
use Rattle.rules_resolution.proofs.table.add_premise.Goals as goal

pub loop-place-preserved : goal.loop-place-preserved
loop-place-preserved c =
    rw (c.in_ok-add_literal.ensures, c.loop-place.invariant, append_assoc)
    (ap (λ ys. c.args.found.now.items ++ ys) (sym (occurrences_of-more c.args.premise c.loop-place.place c.args.clause.now _ c.loop-place-test.true)))
