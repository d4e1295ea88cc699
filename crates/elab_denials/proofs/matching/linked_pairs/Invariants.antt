use Rattle.std.proofs.Common.{◌≡◌, ℕ, List, Option, take, zip}
use Rattle.std.specs.List.{AllZip}
use Rattle.equality_ways.specs.Tables.{IsTableOf}
use Rattle.elab_denials.specs.Matching.{AreLinkedAt}
use Rattle.elab_denials.proofs.matching.linked_pairs.Given as goal

abbrev pub invariant-places : goal.invariant-places
invariant-places l = record {
  same : l.terms ≡ l.fn.terms;
  pairs : l.pairs.items ≡ zip (take l.place l.lefts) (take l.place l.rights);
  linked : (sides : List (Option (ℕ × ℕ))) → IsTableOf sides l.table → AllZip (AreLinkedAt l.at l.fn.terms sides) (take l.place l.lefts) (take l.place l.rights);
}
