use Rattle.std.proofs.Common.{◌≡◌, List}
use Rattle.term_model.specs.Terms.{Term}
use Rattle.term_pool.specs.Views.{ReferToAll}
use Rattle.term_pool.proofs.References.{AreOne}
use Rattle.rules_clausal.specs.Sorting.{IsInOrder}
use Rattle.rules_clausal.proofs.OppositeLemmas.{NoneTo}
use Rattle.rules_clausal.proofs.changes.has_opposites.Given as goal

abbrev pub invariant-loop-literal : goal.invariant-loop-literal
invariant-loop-literal l = record {
  same : l.terms ≡ l.fn.terms;
  none : (one : AreOne l.symbols l.fn.terms) (ts : List Term) (h : ReferToAll l.symbols l.fn.terms l.clause ts) (o : IsInOrder l.clause l.sorted) →
      NoneTo l.symbols l.fn.terms one l.clause l.sorted ts h o l.literal-index;
}
