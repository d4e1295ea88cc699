use Rattle.std.proofs.Common.{◌≡◌, ◌++◌, map, take}
use Rattle.elaborator.specs.Steps.{blocks_in}
use Rattle.elaborator.proofs.blocks.add_piece.Given as goal

abbrev pub invariant-each : goal.invariant-each
invariant-each l = blocks_in l.blocks.items ≡ blocks_in l.initial.blocks.items ++ map (λ b. b.items) (take l.block-index l.piece)
