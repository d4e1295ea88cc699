use Rattle.std.proofs.Common.{◌≡◌, codes, false, rules}
use Rattle.std.specs.Prelude.{bytes_eq}
use Rattle.problem_text.specs.Words.{is_among, left_out_words}
use Rattle.term_reader.proofs.LayerLemmas.{application_top}
use Rattle.term_reader.proofs.layers.symbol_list_layer.Goals as goal

pub node-requires : goal.node-requires
node-requires c = c.requires.applied.inside

pub returns-in_default-2 : goal.returns-in_default-2
returns-in_default-2 c =
    let no_let : bytes_eq c.args.name.now (codes "let") ≡ false = search rules in
    let no_mark : bytes_eq c.args.name.now (codes "!") ≡ false = search rules in
    let kept : is_among left_out_words c.args.name.now ≡ false = search rules in
    application_top c.args.items.now c.args.k c.args.first c.requires.applied c.requires.inside c.node.result.next c.args.name.now c.requires.named no_let no_mark kept c.node.ensures.next
