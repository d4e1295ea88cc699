use Rattle.sym_table.specs.Table.{functions_before}
use Rattle.sort_check.proofs.Judging.{accepted, refused, operator_sort}
use Rattle.sort_check.proofs.applications.check_app.Goals as goal

pub returns-in-Op-clause-accepted : goal.returns-in-Op-clause-accepted
returns-in-Op-clause-accepted c =
    accepted c.args.symbols.now c.args.head c.args.sorts.now c.check_operator.result c.requires
    (operator_sort c.args.symbols.now c.args.head (functions_before c.args.symbols.now c.args.head) c.in-Op.op c.args.sorts.now c.check_operator.result c.in-Op.ensures.kind c.check_operator.ensures)

pub returns-in-Op-clause-refused : goal.returns-in-Op-clause-refused
returns-in-Op-clause-refused c =
    refused c.args.symbols.now c.args.head c.args.sorts.now c.check_operator.result c.requires
    (operator_sort c.args.symbols.now c.args.head (functions_before c.args.symbols.now c.args.head) c.in-Op.op c.args.sorts.now c.check_operator.result c.in-Op.ensures.kind c.check_operator.ensures)

pub returns-in_default-clause-accepted : goal.returns-in_default-clause-accepted
returns-in_default-clause-accepted c =
    accepted c.args.symbols.now c.args.head c.args.sorts.now c.check_function.result c.requires c.check_function.ensures

pub returns-in_default-clause-refused : goal.returns-in_default-clause-refused
returns-in_default-clause-refused c =
    refused c.args.symbols.now c.args.head c.args.sorts.now c.check_function.result c.requires c.check_function.ensures
