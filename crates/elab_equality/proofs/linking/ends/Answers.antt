use Rattle.std.proofs.Common.{sym}
use Rattle.flip_steps.proofs.Results.{was_some}
use Rattle.elab_equality.proofs.ReadingLemmas.{has_sides, literal_is, sides_there}
use Rattle.elab_equality.proofs.linking.ends.Goals as goal

pub only_literal-literal-requires-clause-one : goal.only_literal-literal-requires-clause-one
only_literal-literal-requires-clause-one c = record { literal = c.requires.equates.literal; clause = c.requires.equates.clause }

pub sides_of-requires : goal.sides_of-requires
sides_of-requires c =
    let e = c.requires.equates in
    record { means = _; refers = literal_is c.args.at.now c.args.terms.now e c.only_literal-literal.result (sym c.only_literal-literal.ensures) }

pub unwrap-sides-requires : goal.unwrap-sides-requires
unwrap-sides-requires c =
    has_sides c.args.at.now c.args.terms.now c.requires.equates c.only_literal-literal.result (sym c.only_literal-literal.ensures) c.sides_of.result c.sides_of.ensures.other

pub returns-clause-sides : goal.returns-clause-sides
returns-clause-sides c =
    sides_there c.args.at.now c.args.terms.now c.requires.equates c.only_literal-literal.result (sym c.only_literal-literal.ensures) c.unwrap-sides.result
    (was_some c.sides_of.result c.unwrap-sides.result _ c.unwrap-sides.ensures c.sides_of.ensures.sides)
