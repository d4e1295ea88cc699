use Rattle.rules_congruence.proofs.WayLemmas.{inserts}
use Rattle.rules_congruence.proofs.ways.reach.Goals as goal

pub returns : goal.returns
returns c = rw c.in_ok-insert.ensures.keys (inserts c.args.reached.now.keys c.args.key)
