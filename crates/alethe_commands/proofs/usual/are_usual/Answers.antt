-- The rule's keyword and its name, and then nothing or one list.
use Rattle.std.proofs.Common.{◌∙◌, ap}
use Rattle.text_items.specs.Keywords.{attributes_fault}
use Rattle.text_items.proofs.ItemsAtLemmas.{no_items_are}
use Rattle.alethe_text.specs.Commands.{step_keywords}
use Rattle.alethe_commands.proofs.UsualAttributes.{two_items, rule_alone, rule_with_list}
use Rattle.alethe_commands.proofs.usual.are_usual.Goals as goal

pub returns-then-behind-end : goal.returns-then-behind-end
returns-then-behind-end c = λ yes place.
    ap (attributes_fault step_keywords place)
    (two_items c.args.items.now c.args.first c.args.end c.node-name.result c.node-behind.result c.node-name.ensures c.node-behind.ensures c.if-first-end.false c.if-name-end.false c.requires)
    ∙ rule_alone place _ _ _ (rw c.in-Some-Rule.field-0-is at c.in-Some-Rule.ensures) (no_items_are c.args.items.now c.node-behind.result.next c.args.end c.if-behind-end.true)

pub returns-else-behind-end : goal.returns-else-behind-end
returns-else-behind-end c = λ yes place.
    ap (attributes_fault step_keywords place)
    (two_items c.args.items.now c.args.first c.args.end c.node-name.result c.node-behind.result c.node-name.ensures c.node-behind.ensures c.if-first-end.false c.if-name-end.false c.requires)
    ∙ rule_with_list place _ _ _ (rw c.in-Some-Rule.field-0-is at c.in-Some-Rule.ensures) (c.is_one_list.ensures yes)
