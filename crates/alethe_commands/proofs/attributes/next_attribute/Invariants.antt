-- What stands from node k on gives all attributes that are still to come.
use Rattle.std.proofs.Common.{◌≡◌, ◌-◌, ◌≤◌}
use Rattle.text_items.specs.ItemsAt.{items_at}
use Rattle.alethe_text.specs.Commands.{attributes_of}
use Rattle.alethe_commands.specs.CommandNodes.{AreAttributesAt}
use Rattle.alethe_commands.proofs.attributes.next_attribute.Given as goal

abbrev pub invariant-items : goal.invariant-items
invariant-items l = record {
  same : attributes_of (items_at l.items l.fn.at l.end) ≡ attributes_of (items_at l.items l.k l.end);
  left : AreAttributesAt l.items l.k l.end;
  later : l.fn.at ≤ l.k;
}

abbrev pub decreases-items : goal.decreases-items
decreases-items l = l.end - l.k
