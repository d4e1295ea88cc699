use Rattle.std.proofs.Common.{◌+◌, ◌∙◌, ap, sym, subst}
use Rattle.sexpr.specs.Items.{list, place_of}
use Rattle.sexpr.specs.declared.causes.Cause.TheVariants.{BadCommand}
use Rattle.problem_text.specs.Forms.{Form, faulty, form_of, forms_of, binds_of}
use Rattle.text_items.specs.ItemsAt.{item_at, items_at}
use Rattle.text_items.specs.Stepping.{HasSecond}
use Rattle.text_items.proofs.ShapeLemmas.{list_is}
use Rattle.term_reader.specs.ShapeFaults.{IsLayer}
use Rattle.term_reader.specs.Shapes.{IsApplied, others_of, arguments_of}
use Rattle.term_reader.proofs.LayerLemmas.{short_list, headed_list, unnamed_head, applied_spelled}
use Rattle.term_reader.proofs.layers.list_layer.Goals as goal

pub returns-in_default : goal.returns-in_default
returns-in_default c =
    let i = item_at c.args.items.now c.args.k in
    let node = c.node-list.ensures in
    rw c.faulty.ensures
    (ap form_of (list_is i c.requires.is ∙ ap (list (place_of i)) node.children) ∙ short_list (place_of i) _ c.in_default.ensures ∙ ap (faulty BadCommand) (sym node.start))

pub returns-in_default-name_at : goal.returns-in_default-name_at
returns-in_default-name_at c =
    let items = c.args.items.now in
    let k = c.args.k in
    let first = c.in-Some.first in
    let i = item_at items k in
    let node = c.node-list.ensures in
    let split = subst (HasSecond items (k + 1) first) node.next c.in-Some.ensures in
    let to_end = ap (λ n. items_at items (k + 1) n) node.next in
    rw c.head_fault.ensures
    (ap form_of (list_is i c.requires.is ∙ ap (list (place_of i)) (node.children ∙ to_end ∙ split.split)) ∙ headed_list (place_of i) (item_at items (k + 1)) (item_at items first) (others_of items k first)
    ∙ unnamed_head (place_of i) (item_at items (k + 1)) (arguments_of items k first) (form_of (item_at items first)) (forms_of (others_of items k first)) (binds_of (item_at items first)) (sym c.in_default-name_at.ensures))

pub symbol_list_layer-requires-clause-applied : goal.symbol_list_layer-requires-clause-applied
symbol_list_layer-requires-clause-applied c = record { inside = c.requires.there; is = c.requires.is; second = subst (HasSecond c.args.items.now (c.args.k + 1) c.in-Some.first) c.node-list.ensures.next c.in-Some.ensures }

pub returns : goal.returns
returns c =
    let a : IsApplied c.args.items.now c.args.k c.in-Some.first = record { inside = c.requires.there; is = c.requires.is; second = subst (HasSecond c.args.items.now (c.args.k + 1) c.in-Some.first) c.node-list.ensures.next c.in-Some.ensures } in
    subst (λ (f : Form). IsLayer c.args.items.now c.args.k c.symbol_list_layer.result f)
    (sym (applied_spelled c.args.items.now c.args.k c.in-Some.first a c.requires.inside c.in-Some-name_at.name.now (sym c.in-Some-name_at.ensures))) c.symbol_list_layer.ensures
