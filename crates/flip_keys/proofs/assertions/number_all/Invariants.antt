use Rattle.std.proofs.Common.{◌≡◌, take}
use Rattle.flip_keys.specs.FirstPlaces.{firsts_of, AreFirstPlaces}
use Rattle.flip_keys.specs.KeyTables.{AreClassKeys, AreFound}
use Rattle.flip_keys.proofs.assertions.number_all.Given as goal

abbrev pub invariant-references : goal.invariant-references
invariant-references l =
    (l.terms ≡ l.fn.terms)
    × AreClassKeys l.fn.terms.pass l.keys
    × AreFound l.fn.terms.pass l.keys (take l.place l.references) l.found.numbers.keys
    × AreFirstPlaces l.fn.terms.pass l.keys (take l.place l.references) l.found.numbers.keys (firsts_of l.found)
