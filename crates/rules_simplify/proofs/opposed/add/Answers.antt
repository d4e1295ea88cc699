use Rattle.rules_simplify.proofs.SetLemmas.{added_is}
use Rattle.rules_simplify.proofs.opposed.add.Goals as goal

pub returns : goal.returns
returns c = added_is _ _ _ _ c.number.ensures.number c.in_ok-insert.ensures.keys
