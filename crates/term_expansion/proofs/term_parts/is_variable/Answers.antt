-- A leaf whose kind is that of a variable is one.
use Rattle.sym_table.specs.Table.{functions_before}
use Rattle.term_expansion.proofs.LeafLemmas.{variable_kind}
use Rattle.term_expansion.proofs.term_parts.is_variable.Goals as goal

pub returns-in-Var-clause-yes : goal.returns-in-Var-clause-yes
returns-in-Var-clause-yes c = λ e. variable_kind c.args.symbols.now c.args.leaf (functions_before c.args.symbols.now c.args.leaf) c.in-Var.field-0 c.in-Var.ensures.kind
