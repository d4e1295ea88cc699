use Rattle.std.proofs.Common.{sym, ◌∙◌, ap}
use Rattle.text_items.specs.Keywords.{behind_first, first_of}
use Rattle.text_items.proofs.ItemsAtLemmas.{first_and_others, no_items_are}
use Rattle.text_items.proofs.keywords.second_of.Goals as goal

pub returns-then-found-end : goal.returns-then-found-end
returns-then-found-end c =
    c.first_of.ensures
    ∙ ap (λ items. first_of c.args.word.now (behind_first items))
    (sym (first_and_others c.args.items.now c.find_word-found.result c.args.end c.node.result c.node.ensures c.if-found-end.true c.requires) ∙ c.find_word-found.ensures)

pub returns-else-found-end : goal.returns-else-found-end
returns-else-found-end c =
    ap (λ items. first_of c.args.word.now (behind_first items)) (sym (no_items_are c.args.items.now c.find_word-found.result c.args.end c.if-found-end.false) ∙ c.find_word-found.ensures)
