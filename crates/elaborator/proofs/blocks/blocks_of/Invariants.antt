use Rattle.std.proofs.Common.{◌≡◌, take}
use Rattle.elaborator.specs.Blocks.{blocks_of}
use Rattle.elaborator.specs.Steps.{blocks_in}
use Rattle.elaborator.proofs.blocks.blocks_of.Given as goal

abbrev pub invariant-pieces : goal.invariant-pieces
invariant-pieces l = blocks_in l.blocks.items ≡ blocks_of (take l.piece-index l.pieces)
