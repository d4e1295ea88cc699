-- A first leaf stands where it does in every table.
use Rattle.std.proofs.Common.{subst}
use Rattle.sym_table.specs.Leaf.{operator}
use Rattle.sym_table.specs.Table.{Table, IsLeaf}
use Rattle.sym_table.proofs.Tables.{first_leaf}
use Rattle.sym_table.proofs.symbols.Symbols.operator.Goals as goal

pub returns-clause-leaf : goal.returns-clause-leaf
returns-clause-leaf c =
    let inside = c.self.inside in
    subst (λ (t : Table). IsLeaf t c.operator_leaf.result (operator c.args.op)) c.self.view_is
    (first_leaf inside.function_names inside.functions.items inside.variable_names inside.leaves c.operator_leaf.result (operator c.args.op) c.operator_leaf.ensures)
