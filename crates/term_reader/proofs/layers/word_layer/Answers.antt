use Rattle.std.proofs.Common.{◌≡◌, true, false, sym, ap, ◌∙◌, subst}
use Rattle.sexpr.specs.Words.{word_kind}
use Rattle.problem_text.specs.Forms.{Form, faulty}
use Rattle.term_reader.specs.ShapeFaults.{IsTokenLayer, is_numeral_kind, cause_of_kind}
use Rattle.term_reader.proofs.WordForms.{kind_fits}
use Rattle.term_reader.proofs.layers.word_layer.Goals as goal

pub number_layer-requires : goal.number_layer-requires
number_layer-requires c =
    let fits = kind_fits c.args.place c.args.word.now c.requires.some c.requires.other in
    let holds : is_numeral_kind (word_kind c.args.word.now) ≡ true = ap is_numeral_kind (sym c.word_kind-kind.ensures) ∙ sym c.is_number.ensures ∙ c.if-is_number.true in
    (fits.0 holds).0

pub returns-then-is_number : goal.returns-then-is_number
returns-then-is_number c =
    let fits = kind_fits c.args.place c.args.word.now c.requires.some c.requires.other in
    let holds : is_numeral_kind (word_kind c.args.word.now) ≡ true = ap is_numeral_kind (sym c.word_kind-kind.ensures) ∙ sym c.is_number.ensures ∙ c.if-is_number.true in
    subst (λ (f : Form). IsTokenLayer c.args.place c.number_layer.result f) (sym (fits.0 holds).1) c.number_layer.ensures

pub returns-else-is_number : goal.returns-else-is_number
returns-else-is_number c =
    let fits = kind_fits c.args.place c.args.word.now c.requires.some c.requires.other in
    let fails : is_numeral_kind (word_kind c.args.word.now) ≡ false = ap is_numeral_kind (sym c.word_kind-kind.ensures) ∙ sym c.is_number.ensures ∙ c.if-is_number.false in
    rw c.faulty.ensures (fits.1 fails ∙ ap (λ k. faulty (cause_of_kind k) c.args.place) (sym c.word_kind-kind.ensures) ∙ ap (λ cause. faulty cause c.args.place) (sym c.cause_of.ensures))
