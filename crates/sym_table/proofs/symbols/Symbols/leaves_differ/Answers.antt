-- The fields are linked, so the table is one.
use Rattle.std.proofs.Common.{subst}
use Rattle.sym_table.specs.Table.{IsTable}
use Rattle.sym_table.proofs.Laws.{IsTable-linked}
use Rattle.sym_table.proofs.symbols.Symbols.leaves_differ.Goals as goal

pub returns-clause-table : goal.returns-clause-table
returns-clause-table c = subst IsTable c.self.view_is (IsTable-linked _ _ _ _ _ c.self.invariant.0 c.self.invariant.3)
