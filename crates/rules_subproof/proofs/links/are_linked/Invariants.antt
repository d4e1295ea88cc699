use Rattle.std.proofs.Common.{◌↔◌, drop}
use Rattle.std.specs.List.{AllZip}
use Rattle.rules_subproof.specs.SideTables.{IsBoundTo}
use Rattle.rules_subproof.proofs.links.are_linked.Given as goal

abbrev pub invariant-values : goal.invariant-values
invariant-values l =
    AllZip (IsBoundTo l.table.keys) (drop l.place l.values) (drop l.place l.anchor) ↔ AllZip (IsBoundTo l.table.keys) l.values l.anchor
