use Rattle.std.proofs.Common.{sym, ◌∙◌, ap, if◌then◌else◌}
use Rattle.sexpr.specs.Items.{item}
use Rattle.text_items.specs.ItemsAt.{item_at, items_at, end_at}
use Rattle.text_items.specs.Keywords.{from_word}
use Rattle.text_items.proofs.ItemsAtLemmas.{items_are, no_items_are, told_on}
use Rattle.text_items.proofs.keywords.find_word.Goals as goal

pub returns-then-is_spelled : goal.returns-then-is_spelled
returns-then-is_spelled c =
    let split = items_are c.args.items.now c.items.k c.args.end c.items-test.true c.requires in
    let rest = items_at c.args.items.now (end_at c.args.items.now c.items.k) c.args.end in
    split
    ∙ sym (c.items.invariant ∙ ap (from_word c.args.word.now) split
    ∙ ap (λ b. if b then item (item_at c.args.items.now c.items.k) rest else from_word c.args.word.now rest) (sym c.is_spelled.ensures ∙ c.if-is_spelled.true))

pub items-preserved : goal.items-preserved
items-preserved c =
    let rest = items_at c.args.items.now c.node-k.result.next c.args.end in
    told_on c.args.items.now c.items.k c.args.end c.node-k.result c.node-k.ensures c.items-test.true c.requires (from_word c.args.word.now) _ c.items.invariant
    ∙ ap (λ b. if b then item (item_at c.args.items.now c.items.k) rest else from_word c.args.word.now rest) (sym c.is_spelled.ensures ∙ c.if-is_spelled.false)

pub returns : goal.returns
returns c =
    let none = no_items_are c.args.items.now c.items.k c.args.end c.items-test.false in
    none ∙ sym (c.items.invariant ∙ ap (from_word c.args.word.now) none)
