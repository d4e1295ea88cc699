use Rattle.std.proofs.Common.{◌∙◌, arith}
use mir.Syntax.{w128}
use Rattle.std.proofs.lemmas.Int.{ints, to_z-of_z}
use Rattle.sexpr.specs.Words.{numeral_value}
use Rattle.term_reader.proofs.WordForms.{narrow_number}
use Rattle.term_reader.proofs.layers.number_layer.Goals as goal

pub returns-in-Some : goal.returns-in-Some
returns-in-Some c =
    let value = c.in-Some.ensures.value in
    let fits = c.in-Some.ensures.fits in (
      numeral_value c.args.digits.now,
      narrow_number c.args.place c.args.digits.now c.requires fits,
      to_z-of_z w128 c.in-Some.value (omega (arith, ints, value, fits)) ∙ value,
    )
