-- By whether there are two items.
use Rattle.alethe_reader.proofs.PivotPairs.{ends_behind, ends_alone}
use Rattle.alethe_reader.proofs.pivots.pair_end.Goals as goal

pub returns-in-Some : goal.returns-in-Some
returns-in-Some c = ends_behind c.args.items.now c.args.first c.args.end c.requires.items c.in-Some.truth c.in-Some.ensures c.node.result c.node.ensures

pub returns-in-None : goal.returns-in-None
returns-in-None c = ends_alone c.args.items.now c.args.first c.args.end c.requires.items c.requires.some c.in-None.ensures
