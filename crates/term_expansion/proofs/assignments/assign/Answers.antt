use Rattle.std.proofs.Common.{arith}
use Rattle.term_expansion.proofs.AssignedLists.{assign-start, assign-next, assign-end}
use Rattle.term_expansion.proofs.assignments.assign.Goals as goal

pub variables-init : goal.variables-init
variables-init c = (omega arith, assign-start c.args.variables.now c.args.list.now c.args.assignments.now)

pub variables-preserved : goal.variables-preserved
variables-preserved c = (
  let within = c.variables.invariant.0 in omega arith,
  assign-next c.args.variables.now c.args.list.now c.args.assignments.now c.variables.assignments c.push.new.self c.variables.at c.index-list-at.result c.requires
      c.variables-test.true c.variables.invariant.0 c.index-list-at.is c.variables.invariant.1 c.in_ok-push.ensures,
)

pub returns : goal.returns
returns c =
    assign-end c.args.variables.now c.args.list.now c.args.assignments.now c.variables.assignments c.variables.at c.variables-test.false c.variables.invariant.1
