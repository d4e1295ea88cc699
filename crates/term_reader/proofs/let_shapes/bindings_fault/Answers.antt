use Rattle.std.proofs.Common.{◌+◌, arith, ap, sym, ◌∙◌, Some}
use Rattle.sexpr.specs.Items.{list, place_of}
use Rattle.text_items.specs.ItemsAt.{item_at, items_at}
use Rattle.text_items.proofs.ItemsAtLemmas.{items_are, no_items_are}
use Rattle.text_items.proofs.ShapeLemmas.{list_is}
use Rattle.term_reader.proofs.LetShapes.{no_bindings, some_bindings}
use Rattle.term_reader.proofs.let_shapes.bindings_fault.Goals as goal

pub returns-then-bindings-k : goal.returns-then-bindings-k
returns-then-bindings-k c =
    let i = item_at c.args.items.now c.args.k in
    let node = c.node-bindings.ensures in
    let none = no_items_are c.args.items.now (c.args.k + 1) c.node-bindings.result.next (omega arith) in
    ap Some node.start ∙ sym (no_bindings i (place_of i) (list_is i (cc (c.is_list.ensures)) ∙ ap (list (place_of i)) (node.children ∙ none)))

pub returns : goal.returns
returns c =
    let items = c.args.items.now in
    let i = item_at items c.args.k in
    let node = c.node-bindings.ensures in
    let those = items_are items (c.args.k + 1) c.node-bindings.result.next (omega (arith, node.behind, c.if-bindings-k.false)) node.inside in
    c.pairs_fault.ensures
    ∙ sym (some_bindings i (place_of i) (items_at items (c.args.k + 1) c.node-bindings.result.next) (list_is i (cc (c.is_list.ensures)) ∙ ap (list (place_of i)) node.children) (λ none. cc (sym those ∙ none)))
