use Rattle.term_sharing.specs.FreeNames.{HasLeavesBelow}
use Rattle.term_sharing.proofs.free_names.leaf_names.Given as goal

abbrev pub invariant-leaves : goal.invariant-leaves
invariant-leaves l = HasLeavesBelow l.symbols l.leaf l.names
