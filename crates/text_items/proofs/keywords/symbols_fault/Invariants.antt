use Rattle.std.proofs.Common.{◌≡◌, ◌-◌}
use Rattle.text_items.specs.ItemsAt.{items_at}
use Rattle.text_items.specs.Keywords.{symbols_fault}
use Rattle.text_items.proofs.keywords.symbols_fault.Given as goal

-- no fault is found before node k
abbrev pub invariant-items : goal.invariant-items
invariant-items l = symbols_fault (items_at l.items l.first l.end) ≡ symbols_fault (items_at l.items l.k l.end)

abbrev pub decreases-items : goal.decreases-items
decreases-items l = l.end - l.k
