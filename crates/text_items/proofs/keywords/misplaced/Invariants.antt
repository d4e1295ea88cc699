use Rattle.std.proofs.Common.{◌≡◌, ◌-◌, map}
use Rattle.text_items.specs.ItemsAt.{items_at}
use Rattle.text_items.specs.Keywords.{known_of, misplaced, word_next}
use Rattle.text_items.proofs.keywords.misplaced.Given as goal

-- no item before node k is misplaced, and `next` is what may stand there
abbrev pub invariant-items : goal.invariant-items
invariant-items l = misplaced (map known_of l.known) word_next (items_at l.items l.first l.end) ≡ misplaced (map known_of l.known) l.next (items_at l.items l.k l.end)

abbrev pub decreases-items : goal.decreases-items
decreases-items l = l.end - l.k
