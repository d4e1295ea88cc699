use Rattle.std.proofs.Common.{◌≡◌, ◌-◌, ℕ, map}
use Rattle.text_items.specs.ItemsAt.{items_at}
use Rattle.text_items.specs.Keywords.{known_of, attributes_fault}
use Rattle.text_items.specs.OnePass.{fault_still}
use Rattle.text_items.proofs.one_pass.is_faultless.Given as goal

-- the fault is the one that is still to come from node k on
abbrev pub invariant-items : goal.invariant-items
invariant-items l = (place : ℕ) → attributes_fault (map known_of l.known) place (items_at l.items l.first l.end) ≡ fault_still (map known_of l.known) place l.stood l.next (items_at l.items l.k l.end)

abbrev pub decreases-items : goal.decreases-items
decreases-items l = l.end - l.k
