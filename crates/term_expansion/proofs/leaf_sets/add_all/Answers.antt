-- The set has the leaves that the loop has passed.
use Rattle.std.proofs.lemmas.List.{take_more}
use Rattle.term_model.proofs.Lists.{contains_none}
use Rattle.term_expansion.proofs.SetLemmas.{unbound-more}
use Rattle.term_expansion.proofs.leaf_sets.add_all.Goals as goal

pub leaves-preserved : goal.leaves-preserved
leaves-preserved c =
    unbound-more _ _ _ _ _ _ _ c.leaves.invariant (λ is. contains_none _ is) c.in_ok-add.ensures (take_more c.args.leaves.now c.leaves.k-index 0 c.leaves-test.true)
