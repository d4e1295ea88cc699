use Rattle.std.proofs.Common.{sym, ap, ◌∙◌, Bool, cond}
use Rattle.sexpr.specs.Items.{place_of}
use Rattle.sexpr.specs.declared.causes.Cause.TheVariants.{LeftOut}
use Rattle.problem_text.specs.Forms.{faulty, symbol, form_of}
use Rattle.text_items.specs.ItemsAt.{item_at}
use Rattle.text_items.specs.ItemShapes.{Name}
use Rattle.term_reader.specs.declared.layers.Layer.{Layer}
use Rattle.term_reader.proofs.LayerLemmas.{symbol_top, symbol_spelled, named_at}
use Rattle.term_reader.proofs.layers.symbol_at.Goals as goal

pub returns : goal.returns
returns c =
    let i = item_at c.args.items.now c.args.k in
    let name = c.in-Some.name.now in
    let named = sym c.in-Some.ensures in
    let kept = sym c.is_left_out.ensures ∙ c.if-is_left_out.false in (
      symbol_top c.args.items.now c.args.k c.requires.there c.requires.inside name Layer.Symbol (form_of i) named
          (symbol_spelled i name named
          ∙ ap (λ (b : Bool). cond b (faulty LeftOut (place_of i)) (symbol (record { place = place_of i; name = name }))) kept),
      sym (ap (λ (n : Name). n.name) (named_at i name named)),
    )
