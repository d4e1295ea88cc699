-- The head of the item is its word, and the other items are judged by it.
use Rattle.text_items.specs.Stepping.{head_word}
use Rattle.std.proofs.Common.{◌∙◌, Err, sym, ap, subst, rules}
use Rattle.sexpr.specs.Items.{place_of}
use Rattle.text_items.specs.ItemsAt.{item_at, items_at}
use Rattle.alethe_commands.specs.CommandNodes.{IsCommand}
use Rattle.alethe_commands.proofs.CommandsByNodes.{lacks_word, with_word, without_word}
use Rattle.alethe_commands.proofs.commands.command_of.Goals as goal

pub returns-in_err-head : goal.returns-in_err-head
returns-in_err-head c =
    let t = rw c.count.ensures at c.in_err-head.ensures in
    let none = c.node-start.ensures.children ∙ ap (items_at c.args.items.now 1) (c.node-start.ensures.next ∙ c.requires.whole) ∙ t.0 in
    let e = lacks_word (item_at c.args.items.now 0) none _ c.node-start.ensures.start c.in_err-head.field-0.0 t.1 in
    search rules

pub returns-in-Some : goal.returns-in-Some
returns-in-Some c =
    let t = rw c.count.ensures at c.in_ok-head.ensures in
    let split = c.node-start.ensures.children ∙ ap (items_at c.args.items.now 1) (c.node-start.ensures.next ∙ c.requires.whole) ∙ t.1.split in
    subst (λ q. IsCommand c.args.items.now c.command_so.result q)
    (sym (with_word (item_at c.args.items.now 0) (item_at c.args.items.now 1) _ split _ (c.in-Some.ensures ∙ ap (λ k. head_word (item_at c.args.items.now k)) t.0) c.word_named.result c.word_named.ensures
    _ _ c.node-start.ensures.start (c.node-word_start.ensures.start ∙ ap (λ k. place_of (item_at c.args.items.now k)) t.0)))
    c.command_so.ensures

pub returns-in-None : goal.returns-in-None
returns-in-None c =
    let t = rw c.count.ensures at c.in_ok-head.ensures in
    let split = c.node-start.ensures.children ∙ ap (items_at c.args.items.now 1) (c.node-start.ensures.next ∙ c.requires.whole) ∙ t.1.split in
    without_word (item_at c.args.items.now 0) (item_at c.args.items.now 1) _ split (c.in-None.ensures ∙ ap (λ k. head_word (item_at c.args.items.now k)) t.0)
    _ (c.node-word_start.ensures.start ∙ ap (λ k. place_of (item_at c.args.items.now k)) t.0)
    ∙ ap Err (sym c.bad_command.ensures)
