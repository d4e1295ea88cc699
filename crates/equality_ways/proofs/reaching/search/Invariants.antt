use Rattle.std.proofs.Common.{◌-◌}
use Rattle.equality_ways.specs.Reaching.{IsSearched}
use Rattle.equality_ways.proofs.reaching.search.Given as goal

abbrev pub invariant-reached : goal.invariant-reached
invariant-reached l = IsSearched l.entries l.fn.start l.at l.reached.keys.keys l.reached.steps.items

abbrev pub decreases-reached : goal.decreases-reached
decreases-reached l = 18446744073709551616 - l.at
