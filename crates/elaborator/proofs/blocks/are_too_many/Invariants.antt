use Rattle.std.proofs.Common.{◌≡◌, ◌<◌, ◌-◌, ◌^◌, take}
use Rattle.elaborator.specs.Blocks.{commands_needed}
use Rattle.elaborator.specs.Steps.{blocks_in}
use Rattle.elaborator.proofs.blocks.are_too_many.Given as goal

abbrev pub invariant-each : goal.invariant-each
invariant-each l = (l.needed ≡ commands_needed (blocks_in (take l.block-index l.blocks))) × (l.needed < 2 ^ 32 - 1)
