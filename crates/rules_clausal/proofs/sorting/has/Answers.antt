use Rattle.rules_clausal.proofs.SortingLemmas.{has_is}
use Rattle.rules_clausal.proofs.sorting.has.Goals as goal

pub returns : goal.returns
returns c =
    has_is c.args.sorted.now c.args.literal c.binary_search.result c.is_ok.result c.requires
    (rw c.slot_of.ensures at c.binary_search.ensures.position) c.is_ok.ensures.value
