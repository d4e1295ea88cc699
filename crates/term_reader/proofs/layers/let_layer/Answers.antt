use Rattle.std.proofs.Common.{◌∙◌, ap, sym, ℕ}
use Rattle.problem_text.specs.Forms.{let_fault}
use Rattle.sexpr.specs.Items.{place_of}
use Rattle.text_items.specs.ItemsAt.{item_at, items_at, end_at}
use Rattle.text_items.proofs.ItemsAtLemmas.{items_are, ends_inside}
use Rattle.term_reader.proofs.LayerLemmas.{faulty_top, first_within, let_top}
use Rattle.term_reader.proofs.layers.let_layer.Goals as goal

pub node-list-requires : goal.node-list-requires
node-list-requires c = c.requires.applied.inside

pub let_fault-requires : goal.let_fault-requires
let_fault-requires c = c.node-list.ensures.inside

pub returns-in-Some : goal.returns-in-Some
returns-in-Some c =
    let items = c.args.items.now in
    let node = c.node-list.ensures in
    let those = ap (λ n. items_at items c.args.first n) node.next ∙ items_are items c.args.first (end_at items c.args.k) c.requires.applied.second.less (ends_inside items c.args.k c.requires.applied.inside) in
    rw c.faulty.ensures (faulty_top _ _ c.in-Some.at (c.in-Some.ensures ∙ ap (λ (p : ℕ). let_fault p (items_at items c.args.first c.node-list.result.next)) node.start ∙ ap (let_fault (place_of (item_at items c.args.k))) those))

pub node-body-requires : goal.node-body-requires
node-body-requires c = first_within c.args.items.now c.args.k c.args.first c.requires.applied c.requires.inside

pub returns : goal.returns
returns c =
    let items = c.args.items.now in
    let node = c.node-list.ensures in
    let those = ap (λ n. items_at items c.args.first n) node.next ∙ items_are items c.args.first (end_at items c.args.k) c.requires.applied.second.less (ends_inside items c.args.k c.requires.applied.inside) in
    let_top items c.args.k c.args.first c.requires.applied c.requires.inside c.node-body.result.next
    (sym (c.in_default.ensures ∙ ap (λ (p : ℕ). let_fault p (items_at items c.args.first c.node-list.result.next)) node.start ∙ ap (let_fault (place_of (item_at items c.args.k))) those)) c.node-body.ensures.next
