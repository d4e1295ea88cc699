use Rattle.std.proofs.Common.{◌≡◌, take}
use Rattle.std.specs.List.{AllZip}
use Rattle.elab_resolution.specs.Counted.{IsCountOf}
use Rattle.elab_resolution.proofs.counting.count_all.Given as goal

abbrev pub invariant-roots : goal.invariant-roots
invariant-roots l = record {
  same : l.terms ≡ l.fn.terms;
  so_far : AllZip (IsCountOf l.symbols l.fn.terms) (take l.root-index l.roots) l.counted.items;
}
