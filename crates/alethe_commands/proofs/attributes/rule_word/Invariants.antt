-- The rule of all is that of the attributes that are still to come.
use Rattle.std.proofs.Common.{◌≡◌, ◌-◌, length}
use Rattle.text_items.specs.ItemsAt.{items_at}
use Rattle.alethe_text.specs.Commands.{attributes_of}
use Rattle.alethe_text.specs.Steps.{rule_word}
use Rattle.alethe_commands.specs.CommandNodes.{AreAttributesAt}
use Rattle.alethe_commands.proofs.attributes.rule_word.Given as goal

abbrev pub invariant-attributes : goal.invariant-attributes
invariant-attributes l = record {
  same : rule_word (attributes_of (items_at l.items l.first l.end)) ≡ rule_word (attributes_of (items_at l.items l.at l.end));
  left : AreAttributesAt l.items l.at l.end;
}

abbrev pub decreases-attributes : goal.decreases-attributes
decreases-attributes l = length l.items.nodes - l.at
