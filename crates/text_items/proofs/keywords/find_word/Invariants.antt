use Rattle.std.proofs.Common.{◌≡◌, ◌-◌}
use Rattle.text_items.specs.ItemsAt.{items_at}
use Rattle.text_items.specs.Keywords.{from_word}
use Rattle.text_items.proofs.keywords.find_word.Given as goal

-- no item before node k is the keyword
abbrev pub invariant-items : goal.invariant-items
invariant-items l = from_word l.word (items_at l.items l.first l.end) ≡ from_word l.word (items_at l.items l.k l.end)

abbrev pub decreases-items : goal.decreases-items
decreases-items l = l.end - l.k
