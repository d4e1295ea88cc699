use Rattle.std.proofs.Common.{Ok, refl}
use Rattle.sexpr.proofs.Faults.{ok_where_formed, err_where_faulty}
use Rattle.sexpr.proofs.brackets.form.Goals as goal

pub returns-clause-ok_where_formed : goal.returns-clause-ok_where_formed
returns-clause-ok_where_formed c = ok_where_formed c.args.bytes.now c.first_fault.result c.first_fault.ensures

pub returns-clause-err_where_faulty : goal.returns-clause-err_where_faulty
returns-clause-err_where_faulty c = err_where_faulty c.args.bytes.now c.first_fault.result c.first_fault.ensures

pub returns-then-is_formed-clause-err_where_faulty :
    goal.returns-then-is_formed-clause-err_where_faulty
returns-then-is_formed-clause-err_where_faulty c = err_where_faulty c.args.bytes.now (Ok tt) (c.if-is_formed.ensures refl)
