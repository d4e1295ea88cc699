use Rattle.std.proofs.Common.{◌∙◌, refl, arith}
use Rattle.rule_model.specs.Ite.{IsFactOfChoice}
use Rattle.rules_ite.proofs.EachLemmas.{one_fails, one_more, all_hold}
use Rattle.rules_ite.proofs.facts.are_facts.Goals as goal

pub loop-fact-init : goal.loop-fact-init
loop-fact-init c = record { same = refl; so_far = λ ts refer k d within. absurd (omega (arith, within)) }

pub returns-then-not-branch-clause-facts : goal.returns-then-not-branch-clause-facts
returns-then-not-branch-clause-facts c ts refer =
    one_fails IsFactOfChoice c.args.symbols.now c.args.terms.now c.args.list.now ts refer c.loop-fact.fact-index c.fact-item.result c.in_ok-is_fact.field-0
    c.loop-fact-test.true c.fact-item.is (rw (c.get.ensures, c.loop-fact.invariant.same) at c.in_ok-is_fact.ensures.fact) c.if-not-branch.true

pub loop-fact-preserved : goal.loop-fact-preserved
loop-fact-preserved c = record {
  same = c.is_fact.ensures.same ∙ c.loop-fact.invariant.same;
  so_far = λ ts refer.
      one_more IsFactOfChoice c.args.symbols.now c.args.terms.now c.args.list.now ts refer c.loop-fact.fact-index c.fact-item.result c.in_ok-is_fact.field-0
      c.loop-fact-test.true c.fact-item.is (rw (c.get.ensures, c.loop-fact.invariant.same) at c.in_ok-is_fact.ensures.fact) c.if-not-branch.false (c.loop-fact.invariant.so_far ts refer);
}

pub returns-clause-facts : goal.returns-clause-facts
returns-clause-facts c ts refer =
    all_hold IsFactOfChoice c.args.symbols.now c.args.terms.now c.args.list.now ts refer c.loop-fact.fact-index c.loop-fact-test.false (c.loop-fact.invariant.so_far ts refer)
