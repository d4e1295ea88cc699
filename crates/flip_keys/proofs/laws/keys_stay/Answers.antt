use Rattle.flip_keys.proofs.Finding.{found_later, all_known_later}
use Rattle.flip_keys.proofs.FirstPlaces.{firsts_later}
use Rattle.flip_keys.proofs.Walking.{keys_later, same_keeps}
use Rattle.flip_keys.specs.Assertions.{references_of}
use Rattle.flip_keys.specs.FirstPlaces.{firsts_of}
use Rattle.flip_keys.proofs.laws.keys_stay.Goals as goal

pub returns : goal.returns
returns c v w a keeps h = record {
  known = all_known_later v.pass w.pass keeps.pass.grows (references_of a) h.known;
  placed = h.placed;
  keys = keys_later v.pass w.pass a.keys keeps.pass.grows h.keys;
  found = λ yes. found_later v.pass w.pass a.keys a.keys keeps.pass.grows (same_keeps a.keys.classes.keys) (references_of a) a.found.numbers.keys (h.found yes);
  firsts = λ yes.
      firsts_later v.pass w.pass a.keys a.keys keeps.pass.grows (same_keeps a.keys.classes.keys)
      (references_of a) a.found.numbers.keys (firsts_of a.found) (h.firsts yes);
}
