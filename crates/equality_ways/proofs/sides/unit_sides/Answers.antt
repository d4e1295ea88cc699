use Rattle.equality_ways.proofs.SideLemmas.{unit_of, no_unit_of, not_one_literal}
use Rattle.equality_ways.proofs.sides.unit_sides.Goals as goal

pub returns-in_default-clause-sides : goal.returns-in_default-clause-sides
returns-in_default-clause-sides c = not_one_literal c.args.symbols.now c.args.terms.now c.args.clause.now c.in_default.ensures.other

pub returns-in_default-sides_of-clause-sides : goal.returns-in_default-sides_of-clause-sides
returns-in_default-sides_of-clause-sides c =
    no_unit_of c.args.symbols.now c.args.terms.now c.args.clause.now c.in-Some.literal c.in-Some.ensures.one c.in_default-sides_of.ensures.other

pub returns-clause-sides : goal.returns-clause-sides
returns-clause-sides c =
    rw c.new.ensures
    (unit_of c.args.symbols.now c.args.terms.now c.args.clause.now c.in-Some.literal c.in-Some-sides_of.found c.in-Some.ensures.one c.in-Some-sides_of.ensures.sides)
