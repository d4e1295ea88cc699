use Rattle.std.proofs.Common.{◌<◌, length}
use Rattle.equality_ways.specs.Reaching.{IsTrail}
use Rattle.equality_ways.proofs.ways.way_back.Given as goal

abbrev pub invariant-back : goal.invariant-back
invariant-back l = (l.at < length l.steps) × IsTrail l.steps l.place l.at l.back.items

abbrev pub decreases-back : goal.decreases-back
decreases-back l = l.at
