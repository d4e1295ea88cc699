use Rattle.std.proofs.Common.{◌≡◌, ◌-◌, map}
use Rattle.text_items.specs.ItemsAt.{items_at}
use Rattle.text_items.specs.Keywords.{known_of, at_end, word_next}
use Rattle.text_items.proofs.keywords.at_end.Given as goal

-- `next` is what may stand at node k
abbrev pub invariant-items : goal.invariant-items
invariant-items l = at_end (map known_of l.known) word_next (items_at l.items l.first l.end) ≡ at_end (map known_of l.known) l.next (items_at l.items l.k l.end)

abbrev pub decreases-items : goal.decreases-items
decreases-items l = l.end - l.k
