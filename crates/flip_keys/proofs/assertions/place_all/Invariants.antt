use Rattle.std.proofs.Common.{take}
use Rattle.flip_keys.specs.KeyTables.{HasJust}
use Rattle.flip_keys.proofs.assertions.place_all.Given as goal

abbrev pub invariant-references : goal.invariant-references
invariant-references l = HasJust (take l.r-index l.references) l.placed.keys
