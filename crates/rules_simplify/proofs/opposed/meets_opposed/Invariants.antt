use Rattle.std.proofs.Common.{◌≡◌, List, take}
use Rattle.term_model.specs.Terms.{Term}
use Rattle.term_pool.specs.Views.{ReferToAll}
use Rattle.rules_simplify.proofs.OpposedLemmas.{IsNoted}
use Rattle.rules_simplify.proofs.opposed.meets_opposed.Given as goal

abbrev pub invariant-loop-item : goal.invariant-loop-item
invariant-loop-item l = record {
  same : l.terms ≡ l.fn.terms;
  noted : (ts : List Term) → ReferToAll l.symbols l.fn.terms l.list ts → IsNoted l.symbols l.fn.terms (take l.item-index ts) l.even.keys l.odd.keys;
}
