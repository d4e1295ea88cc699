use Rattle.std.proofs.Common.{◌≡◌, ◌↔◌, List, drop}
use Rattle.std.specs.List.{AllZip}
use Rattle.term_model.specs.Terms.{Term}
use Rattle.term_pool.specs.Views.{RefersTo, ReferToAll}
use Rattle.rule_model.specs.Ite.{IsInequality}
use Rattle.rules_ite.proofs.distinct.is_apart_from.Given as goal

abbrev pub invariant-loop-place : goal.invariant-loop-place
invariant-loop-place l = record {
  same : l.terms ≡ l.fn.terms;
  left : (t : Term) (us ls : List Term) → RefersTo l.symbols l.fn.terms l.one t → ReferToAll l.symbols l.fn.terms l.others us → ReferToAll l.symbols l.fn.terms l.literals ls →
      AllZip (IsInequality t) us ls ↔ AllZip (IsInequality t) (drop l.place us) (drop l.place ls);
}
