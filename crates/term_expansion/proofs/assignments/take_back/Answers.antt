use Rattle.std.proofs.Common.{arith, ap, length}
use Rattle.term_expansion.proofs.AssignedLists.{take_back-start, take_back-next, take_back-end}
use Rattle.term_expansion.proofs.assignments.take_back.Goals as goal

pub variables-init : goal.variables-init
variables-init c = (c.requires, take_back-start c.args.assignments.now)

pub variables-preserved : goal.variables-preserved
variables-preserved c =
    let longer = c.variables-test.true in
    let len = c.len.ensures in
    let shorter = ap length c.in_ok-pop.ensures.1 in (
      omega arith,
      take_back-next c.args.assignments.now c.variables.assignments c.pop.new.self c.in_ok-pop.ensures.0 c.variables.invariant.1 c.in_ok-pop.ensures.1,
    )

pub returns : goal.returns
returns c =
    let within = c.variables.invariant.0 in
    let len = c.len.ensures in
    let short = c.variables-test.false in
    take_back-end c.args.assignments.now c.variables.assignments c.args.n (omega arith) c.variables.invariant.1
