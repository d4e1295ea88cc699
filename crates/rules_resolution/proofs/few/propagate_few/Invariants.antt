use Rattle.clause_chain.specs.Chaining.{clauses_of}
use Rattle.rules_resolution.specs.Scans.{IsScanReached}
use Rattle.rules_resolution.proofs.few.propagate_few.Given as goal

abbrev pub invariant-rounds : goal.invariant-rounds
invariant-rounds l = IsScanReached (clauses_of l.premises) l.goal l.units.items l.falses.items
