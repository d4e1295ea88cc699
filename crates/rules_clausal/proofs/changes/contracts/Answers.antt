use Rattle.rules_clausal.proofs.SortingLemmas.{repeats_are_no_contraction, lacks_are_no_contraction, contraction_is}
use Rattle.rules_clausal.proofs.changes.contracts.Goals as goal

pub returns-then-not-has_no_repeat : goal.returns-then-not-has_no_repeat
returns-then-not-has_no_repeat c =
    repeats_are_no_contraction c.args.premise.now c.args.clause.now c.in_ok-new.new.items c.has_no_repeat.result c.in_ok-new.ensures
    (rw c.deref.ensures at c.has_no_repeat.ensures) c.if-not-has_no_repeat.true

pub returns-then-not-has_each : goal.returns-then-not-has_each
returns-then-not-has_each c =
    lacks_are_no_contraction c.args.premise.now c.args.clause.now c.in_ok-new.new.items c.has_each.result c.in_ok-new.ensures
    (rw c.deref-2.ensures at c.has_each.ensures) c.if-not-has_each.true

pub returns : goal.returns
returns c =
    contraction_is c.args.premise.now c.args.clause.now c.in_ok-old.old.items c.in_ok-new.new.items c.has_no_repeat.result c.has_each.result c.has_each-2.result
    c.in_ok-old.ensures c.in_ok-new.ensures (rw c.deref.ensures at c.has_no_repeat.ensures) c.if-not-has_no_repeat.false
    (rw c.deref-2.ensures at c.has_each.ensures) c.if-not-has_each.false (rw c.deref-3.ensures at c.has_each-2.ensures)
