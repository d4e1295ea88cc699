use Rattle.rules_simplify.proofs.ShorterLemmas.{AreLeft}
use Rattle.rules_simplify.proofs.shorter.without.Given as goal

abbrev pub invariant-loop-item : goal.invariant-loop-item
invariant-loop-item l = AreLeft l.left_out l.list l.item-index l.kept.items
