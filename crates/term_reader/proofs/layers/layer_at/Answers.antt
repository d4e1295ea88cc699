use Rattle.std.proofs.Common.{sym, subst, ℕ}
use Rattle.sexpr.specs.Items.{place_of}
use Rattle.problem_text.specs.Forms.{Form, form_of, symbol_form}
use Rattle.text_items.specs.ItemsAt.{item_at}
use Rattle.term_reader.specs.ShapeFaults.{IsSymbolLayer}
use Rattle.term_reader.proofs.LayerLemmas.{symbol_top, token_top, symbol_spelled}
use Rattle.term_reader.proofs.layers.layer_at.Goals as goal

pub returns-in-Some : goal.returns-in-Some
returns-in-Some c =
    let i = item_at c.args.items.now c.args.k in
    let name = c.in-Some.name.now in
    let named = sym c.in-Some.ensures in
    let at_place = subst (λ (p : ℕ). IsSymbolLayer p name c.symbol_layer.result (symbol_form (record { place = p; name = name }))) c.place_at.ensures c.symbol_layer.ensures in
    symbol_top c.args.items.now c.args.k c.requires.there c.requires.inside name c.symbol_layer.result (form_of i) named
    (subst (λ (f : Form). IsSymbolLayer (place_of i) name c.symbol_layer.result f) (sym (symbol_spelled i name named)) at_place)

pub returns-in-None : goal.returns-in-None
returns-in-None c =
    let i = item_at c.args.items.now c.args.k in
    token_top c.args.items.now c.args.k c.requires.there c.requires.inside c.token_layer.result (form_of i) (cc (c.is_list.ensures, c.if-is_list.false)) c.token_layer.ensures
