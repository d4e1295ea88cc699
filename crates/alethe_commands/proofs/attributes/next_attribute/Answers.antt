-- None is left.
use Rattle.std.proofs.Common.{◌∙◌, ap}
use Rattle.text_items.proofs.ItemsAtLemmas.{no_items_are}
use Rattle.alethe_text.specs.Commands.{attributes_of}
use Rattle.alethe_commands.proofs.attributes.next_attribute.Goals as goal

pub returns : goal.returns
returns c = c.items.invariant.same ∙ ap attributes_of (no_items_are c.args.items.now c.items.k c.args.end c.items-test.false)
