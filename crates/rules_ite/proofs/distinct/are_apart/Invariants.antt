use Rattle.std.proofs.Common.{◌≡◌, List, length, All}
use Rattle.term_model.specs.Terms.{Term}
use Rattle.term_pool.specs.Views.{IsTerm, ReferToAll}
use Rattle.rules_ite.proofs.EachTwoLemmas.{AreLeft}
use Rattle.rules_ite.proofs.distinct.are_apart.Given as goal

abbrev pub invariant-items : goal.invariant-items
invariant-items l = record {
  same : l.terms ≡ l.fn.terms;
  known : All (IsTerm l.symbols l.fn.terms) l.left;
  so_far : (us ls : List Term) → ReferToAll l.symbols l.fn.terms l.list us → ReferToAll l.symbols l.fn.terms l.literals ls →
      AreLeft l.symbols l.fn.terms us ls l.items l.left;
}

abbrev pub decreases-items : goal.decreases-items
decreases-items l = length l.items
