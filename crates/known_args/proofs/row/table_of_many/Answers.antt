use Rattle.std.proofs.lemmas.Result.{IfOk-weaker}
use Rattle.known_args.proofs.row.table_of_many.Goals as goal

pub returns : goal.returns
returns c = IfOk-weaker c.table_of.result _ _ (λ table has many. has) c.table_of.ensures
