use Rattle.equality_steps.proofs.FirstsLemmas.{none_added, one_added}
use Rattle.equality_steps.proofs.firsts.add_others.Goals as goal

pub literals-init : goal.literals-init
literals-init c = (c.requires, none_added c.args.other c.args.firsts.now.literals.items)

pub literals-preserved : goal.literals-preserved
literals-preserved c = (
  c.in_ok-add_other.ensures.firsts,
  one_added c.args.other c.args.firsts.now.literals.items c.args.clause.now c.literals.firsts.literals.items c.add_other.new.self.literals.items
      c.literals.literal-index c.literal-item.result c.literals-test.true c.literal-item.is c.literals.invariant.1 c.in_ok-add_other.ensures.same
      c.in_ok-add_other.ensures.differs,
)
