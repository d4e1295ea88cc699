use Rattle.sexpr.specs.Tokens.{token_text}
use Rattle.text_items.specs.ItemsAt.{item_at}
use Rattle.term_reader.proofs.LayerLemmas.{word_spelled, string_spelled}
use Rattle.term_reader.proofs.layers.token_layer.Goals as goal

pub returns-in-Word : goal.returns-in-Word
returns-in-Word c =
    let r = c.node.ensures in
    word_spelled c.node.result.token.kind (token_text c.args.items.now.source c.node.result.token) (item_at c.args.items.now c.args.k) c.word_layer.result c.node.result.token.start c.in-Word.is r.begins r.start
    (rw c.spelling.ensures at c.word_layer.ensures)

pub returns-in_default : goal.returns-in_default
returns-in_default c =
    let r = c.node.ensures in
    rw c.faulty.ensures (string_spelled c.node.result.token.kind (token_text c.args.items.now.source c.node.result.token) (item_at c.args.items.now c.args.k) c.node.result.token.start c.in_default.not-Word r.begins r.start c.requires.alone c.requires.unnamed)
