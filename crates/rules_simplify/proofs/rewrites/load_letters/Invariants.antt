use Rattle.std.proofs.Common.{◌≡◌, map, take, Some}
use Rattle.schema_match.specs.Letters.{slot}
use Rattle.rules_simplify.proofs.rewrites.load_letters.Given as goal

abbrev pub invariant-loop-letter : goal.invariant-loop-letter
invariant-loop-letter l = record { loaded : map (slot l.letters) (take l.letter-index l.of) ≡ map Some l.into.items }
