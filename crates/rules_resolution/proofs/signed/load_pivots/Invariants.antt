use Rattle.std.proofs.Common.{◌≡◌, take}
use Rattle.std.specs.List.{AllZip}
use Rattle.rules_resolution.specs.Loading.{TakeAway}
use Rattle.rules_resolution.proofs.signed.load_pivots.Given as goal

abbrev pub invariant-loop-pivot : goal.invariant-loop-pivot
invariant-loop-pivot l =
    (l.terms ≡ l.initial.terms) × AllZip (TakeAway l.symbols l.initial.terms) (take l.pivot-index l.pivots) l.list.items
