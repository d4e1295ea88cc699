use Rattle.std.proofs.Common.{◌≡◌, List}
use Rattle.term_model.specs.Terms.{Term}
use Rattle.term_pool.specs.Views.{ReferToAll}
use Rattle.rules_clausal.proofs.ArgumentAnswers.{AreSoFar}
use Rattle.rules_clausal.proofs.argument_rules.are_all.Given as goal

abbrev pub invariant-loop-place : goal.invariant-loop-place
invariant-loop-place l = record {
  same : l.terms ≡ l.fn.terms;
  so_far : (us ts : List Term) (h : ReferToAll l.symbols l.fn.terms l.arguments us) (k : ReferToAll l.symbols l.fn.terms l.literals ts) →
      AreSoFar l.symbols l.fn.terms l.sign l.arguments l.literals us ts h k l.place;
}
