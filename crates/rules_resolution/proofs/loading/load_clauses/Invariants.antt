use Rattle.std.proofs.Common.{◌≡◌, ◌≤◌, length, take}
use Rattle.rules_resolution.specs.Loading.{AreListsOf}
use Rattle.rules_resolution.proofs.loading.load_clauses.Given as goal

abbrev pub invariant-loop-place : goal.invariant-loop-place
invariant-loop-place g l =
    (l.terms ≡ l.initial.terms)
    × (l.place ≤ length l.lists.items)
    × AreListsOf (g.T.OfTerm.is_of l.symbols l.initial.terms) (take l.place l.clauses) (take l.place l.lists.items)
