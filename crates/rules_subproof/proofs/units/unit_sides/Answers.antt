use Rattle.std.proofs.lemmas.Option.{IfSome_then}
use Rattle.rules_subproof.proofs.UnitClauses.{many_are_no_unit, unit_of, no_unit}
use Rattle.rules_subproof.proofs.units.unit_sides.Goals as goal
use Rattle.term_parts.proofs.Options.{none_then}

pub returns-clause-sides : goal.returns-clause-sides
returns-clause-sides c =
    IfSome_then c.sides_of.result c.sides_of.ensures.sides
    (λ p sides ts zip. unit_of c.args.symbols.now c.args.terms.now c.args.clause.now c.index-clause-0.result p c.if-clause-ne1.false c.index-clause-0.is sides ts zip)

pub returns-clause-other : goal.returns-clause-other
returns-clause-other c =
    none_then c.sides_of.result c.sides_of.ensures.other
    (λ other ts t u zip. no_unit c.args.symbols.now c.args.terms.now c.args.clause.now c.index-clause-0.result c.if-clause-ne1.false c.index-clause-0.is other ts t u zip)

pub returns-then-clause-ne1-clause-other : goal.returns-then-clause-ne1-clause-other
returns-then-clause-ne1-clause-other c ts t u zip =
    many_are_no_unit c.args.symbols.now c.args.terms.now c.args.clause.now ts t u c.if-clause-ne1.true zip
