-- The id, the clause, and the attributes behind it.
use Rattle.std.proofs.Common.{◌∙◌}
use Rattle.alethe_commands.proofs.CommandsByNodes.{faultless, step_said}
use Rattle.alethe_commands.proofs.commands.step.Goals as goal

pub returns : goal.returns
returns c =
    let t = rw c.count.ensures at c.in_ok-id.ensures in
    let u = rw c.count-2.ensures at c.in_ok-clause.ensures in
    let none = faultless c.earlier.result c.without_fault.result _ c.without_fault.ensures c.in_ok-without_fault.was in
    rw (t.0, u.0)
    (step_said c.args.items.now c.args.start c.args.at c.take.new.at c.take-2.new.at t.1 u.1
    (rw (c.earlier.ensures, c.step_attributes_fault-behind.ensures, c.count-3.ensures, c.or-before.ensures, c.symbol_fault.ensures, c.clause_fault.ensures.fault, t.0, u.0) at none)
    (λ fits. rw u.0 at (c.clause_fault.ensures.literals (c.clause_fault.ensures.fault ∙ rw u.0 fits))))
