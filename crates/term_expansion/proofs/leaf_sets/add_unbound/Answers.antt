-- What was added of the leaves that the loop has passed.
use Rattle.std.proofs.Common.{◌≡◌, true}
use Rattle.std.proofs.lemmas.List.{take_more}
use Rattle.term_model.proofs.Lists.{contains_none}
use Rattle.term_expansion.proofs.SetLemmas.{added-had, unbound-skip, unbound-more}
use Rattle.term_expansion.proofs.leaf_sets.add_unbound.Goals as goal

pub leaves-preserved-then-has : goal.leaves-preserved-then-has
leaves-preserved-then-has c =
    unbound-skip _ _ _ _ _ _ c.leaves.invariant (added-had _ _ _ c.in_ok-add_all.ensures c.new-hidden.ensures.empty _ (c.has.ensures.0 c.if-has.true)) (take_more c.args.leaves.now c.leaves.k-index 0 c.leaves-test.true)

pub leaves-preserved : goal.leaves-preserved
leaves-preserved c =
    unbound-more _ _ _ _ _ _ _ c.leaves.invariant
    (λ is. let there : c.has.result ≡ true = c.has.ensures.1 (c.in_ok-add_all.ensures.all _ is (contains_none _)) in let not_there = c.if-has.false in absurd cc)
    c.in_ok-add.ensures (take_more c.args.leaves.now c.leaves.k-index 0 c.leaves-test.true)
