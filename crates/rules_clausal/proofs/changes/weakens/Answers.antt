use Rattle.rules_clausal.proofs.SortingLemmas.{each_moved}
use Rattle.rules_clausal.proofs.changes.weakens.Goals as goal

pub returns : goal.returns
returns c =
    each_moved c.args.clause.now c.in_ok-new.new.items c.args.premise.now c.has_each.result c.in_ok-new.ensures (rw c.deref.ensures at c.has_each.ensures)
