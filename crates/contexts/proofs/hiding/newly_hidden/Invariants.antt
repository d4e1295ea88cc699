use Rattle.std.proofs.Common.{take, []}
use Rattle.contexts.specs.Hiding.{AddsHidden}
use Rattle.contexts.proofs.hiding.newly_hidden.Given as goal

abbrev pub invariant-leaves : goal.invariant-leaves
invariant-leaves l = AddsHidden l.images l.hidden (take l.leaf-index l.leaves) [] l.new.items
