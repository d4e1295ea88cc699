-- The attributes stand from the second item on.
use Rattle.std.proofs.Common.{◌≡◌, [], ◌∷◌, ap, sym, ◌∙◌}
use Rattle.sexpr.specs.Items.{item}
use Rattle.problem_text.specs.Forms.{naming_keyword, annotation_fault}
use Rattle.text_items.specs.Keywords.{attributes_fault}
use Rattle.text_items.specs.ItemsAt.{end_at, item_at, items_at}
use Rattle.text_items.proofs.ItemsAtLemmas.{items_are}
use Rattle.term_reader.proofs.attributes.annotation_fault.Goals as goal

pub returns-in-Some : goal.returns-in-Some
returns-in-Some c =
    let h = c.in-Some.ensures in
    let items = c.args.items.now in
    let those : items_at items c.in-Some.attributes c.args.end ≡ item (item_at items c.in-Some.attributes) (items_at items (end_at items c.in-Some.attributes) c.args.end) = items_are items c.in-Some.attributes c.args.end h.less c.requires in
    c.attributes_fault.ensures ∙ ap (attributes_fault (naming_keyword ∷ []) c.args.place) those ∙ ap (annotation_fault c.args.place) (sym h.split)
