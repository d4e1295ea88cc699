use Rattle.std.proofs.lemmas.Bool.Decides.{Decides-eqb}
use Rattle.std.proofs.lemmas.Slice.Eq.{slice_eq-Decides}
use Rattle.rules_clausal.proofs.SortingLemmas.{reordered_is}
use Rattle.rules_clausal.proofs.changes.reorders.Goals as goal

pub returns : goal.returns
returns c =
    reordered_is c.args.premise.now c.args.clause.now c.in_ok-old.old.items c.in_ok-new.new.items c.eq.result c.in_ok-old.ensures c.in_ok-new.ensures
    (slice_eq-Decides Decides-eqb _ _ _ (rw (c.as_slice.ensures, c.as_slice-2.ensures) at c.eq.ensures))
