use Rattle.std.proofs.Common.{◌≡◌, take}
use Rattle.std.specs.List.{AllZip}
use Rattle.rules_resolution.proofs.loading.load_clause.Given as goal

abbrev pub invariant-loop-r : goal.invariant-loop-r
invariant-loop-r g l =
    (l.terms ≡ l.initial.terms) × AllZip (g.T.OfTerm.is_of l.symbols l.initial.terms) (take l.r-index l.clause) l.list.items
