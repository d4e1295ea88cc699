use Rattle.std.proofs.Common.{take}
use Rattle.std.specs.List.{AllZip}
use Rattle.elab_resolution.specs.Loaded.{IsItemOf}
use Rattle.elab_resolution.proofs.clauses.items_of.Given as goal

abbrev pub invariant-literals : goal.invariant-literals
invariant-literals l = AllZip (IsItemOf l.numbering) (take l.literal-index l.clause) l.items.items
