use Rattle.std.proofs.Common.{ap, length, refl, arith}
use Rattle.equality_ways.proofs.ReachLemmas.{ordered_one, reached_one}
use Rattle.equality_ways.proofs.reaching.started.Goals as goal

pub returns-clause-ordered : goal.returns-clause-ordered
returns-clause-ordered c =
    ordered_one c.number.result _ c.new.result.keys c.reach.new.reached.keys.keys c.new-2.result.items c.reach.new.reached.steps.items
    (ap length c.new-2.ensures.items) refl c.in_ok-reach.ensures

pub returns-clause-reached : goal.returns-clause-reached
returns-clause-reached c entries =
    let bound = c.number.ensures.bound in
    rw (← c.number.ensures.number)
    (reached_one entries c.number.result c.new.result.keys c.reach.new.reached.keys.keys c.new-2.result.items c.reach.new.reached.steps.items _
    (omega arith) c.new.ensures.len (ap length c.new-2.ensures.items) c.in_ok-reach.ensures)
