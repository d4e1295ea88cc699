use Rattle.sym_table.specs.Table.{functions_before}
use Rattle.sort_check.proofs.Steps.{operator_step, ite_argument, ite_step}
use Rattle.sort_check.proofs.descent.application_step.Goals as goal
use Rattle.term_pool.proofs.Keeping.{same_terms}

pub nth_arg-requires : goal.nth_arg-requires
nth_arg-requires c =
    ite_argument c.args.symbols.now c.args.terms.now c.args.r c.args.head (functions_before c.args.symbols.now c.args.head) c.in-Op.op c.in-Op.ensures.kind c.in_default-fixed_sort.ensures.ite c.requires

pub returns-in_default-fixed_sort-clause-step : goal.returns-in_default-fixed_sort-clause-step
returns-in_default-fixed_sort-clause-step c =
    ite_step c.args.symbols.now c.args.terms.now c.nth_arg.new.self c.args.r c.args.head (functions_before c.args.symbols.now c.args.head) c.nth_arg.result c.in-Op.op
    (same_terms c.args.terms.now c.nth_arg.new.self c.nth_arg.ensures.keeps c.nth_arg.ensures.unchanged)
    c.in-Op.ensures.kind c.in_default-fixed_sort.ensures.ite c.nth_arg.ensures.argument

pub returns-clause-step : goal.returns-clause-step
returns-clause-step c t sort refers is head =
    operator_step c.args.symbols.now c.args.head (functions_before c.args.symbols.now c.args.head) c.in-Op.op c.in-Some.sort
    c.in-Op.ensures.kind c.in-Some.ensures.fixed t sort is head
