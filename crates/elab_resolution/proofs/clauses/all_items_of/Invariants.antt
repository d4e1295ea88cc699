use Rattle.std.proofs.Common.{take}
use Rattle.std.specs.List.{AllZip}
use Rattle.elab_resolution.specs.Loaded.{AreItemsOf}
use Rattle.elab_resolution.proofs.clauses.all_items_of.Given as goal

abbrev pub invariant-clauses : goal.invariant-clauses
invariant-clauses l = AllZip (AreItemsOf l.numbering) (take l.clause-index l.clauses) l.list.items
