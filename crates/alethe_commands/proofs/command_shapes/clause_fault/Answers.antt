use Rattle.std.proofs.Common.{Some, None, if◌then◌else◌, sym, ◌∙◌, ap}
use Rattle.alethe_commands.proofs.ShapesByNodes.{no_clause, clause_head, literals}
use Rattle.alethe_commands.proofs.command_shapes.clause_fault.Goals as goal

pub returns-then-k-clause-clause-fault : goal.returns-then-k-clause-clause-fault
returns-then-k-clause-clause-fault c = no_clause c.args.items.now c.args.k c.node-clause.result c.node-clause.ensures c.if-k-clause.true

pub returns-then-is_symbol-clause-fault : goal.returns-then-is_symbol-clause-fault
returns-then-is_symbol-clause-fault c =
    ap (λ b. if b then None else Some c.node-head.result.token.start) (sym c.if-is_symbol.true)
    ∙ clause_head c.args.items.now c.args.k c.node-clause.result c.node-clause.ensures c.node-head.result c.node-head.ensures c.if-k-clause.false c.is_symbol.result c.is_symbol.ensures

pub returns-else-is_symbol-clause-fault : goal.returns-else-is_symbol-clause-fault
returns-else-is_symbol-clause-fault c =
    ap (λ b. if b then None else Some c.node-head.result.token.start) (sym c.if-is_symbol.false)
    ∙ clause_head c.args.items.now c.args.k c.node-clause.result c.node-clause.ensures c.node-head.result c.node-head.ensures c.if-k-clause.false c.is_symbol.result c.is_symbol.ensures

pub returns-then-is_symbol-clause-literals : goal.returns-then-is_symbol-clause-literals
returns-then-is_symbol-clause-literals c = λ none.
    literals c.args.items.now c.args.k c.node-clause.result c.node-clause.ensures c.node-head.result c.node-head.ensures c.if-k-clause.false (sym c.is_symbol.ensures ∙ c.if-is_symbol.true)
