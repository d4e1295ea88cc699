-- By the new index of the last command that is kept.
use Rattle.std.proofs.Common.{arith}
use Rattle.pruned_proofs.proofs.Passing.{ends_there, all_reached, last_scope, last_clause}
use Rattle.pruned_proofs.proofs.laws.pruned_proofs_have_nothing_else.Goals as goal

pub returns-clause-end : goal.returns-clause-end
returns-clause-end c proof from marks formed within outer are = let e = ends_there proof formed from within outer marks are in omega arith

pub returns-clause-scope : goal.returns-clause-scope
returns-clause-scope c proof from marks formed within outer are = last_scope proof formed from within outer marks are

pub returns-clause-clause : goal.returns-clause-clause
returns-clause-clause c proof from marks formed within outer are = last_clause proof formed from within outer marks are

pub returns-clause-reached : goal.returns-clause-reached
returns-clause-reached c proof from marks i formed within outer are less = all_reached proof formed from within outer marks are i less
