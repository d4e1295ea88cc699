use Rattle.std.proofs.Common.{◌≡◌, ◌-◌}
use Rattle.text_items.specs.ItemsAt.{items_at}
use Rattle.text_items.specs.ItemShapes.{pairs_fault}
use Rattle.text_items.proofs.shapes.pairs_fault.Given as goal

-- no fault is found before node k
abbrev pub invariant-pairs : goal.invariant-pairs
invariant-pairs l = pairs_fault (items_at l.items l.first l.end) ≡ pairs_fault (items_at l.items l.k l.end)

abbrev pub decreases-pairs : goal.decreases-pairs
decreases-pairs l = l.end - l.k
