use Rattle.std.proofs.Common.{◌≡◌, List}
use Rattle.term_model.specs.Terms.{Term}
use Rattle.term_pool.specs.Views.{ReferToAll}
use Rattle.rule_model.specs.Ite.{IsFactOfChoice}
use Rattle.rules_ite.proofs.EachLemmas.{Below}
use Rattle.rules_ite.proofs.facts.are_facts.Given as goal

abbrev pub invariant-loop-fact : goal.invariant-loop-fact
invariant-loop-fact l = record {
  same : l.terms ≡ l.fn.terms;
  so_far : (ts : List Term) (refer : ReferToAll l.symbols l.fn.terms l.list ts) → Below IsFactOfChoice l.symbols l.fn.terms l.list ts refer l.fact-index;
}
