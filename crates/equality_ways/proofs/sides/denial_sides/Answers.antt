use Rattle.equality_ways.proofs.SideLemmas.{denial_of}
use Rattle.equality_ways.proofs.sides.denial_sides.Goals as goal

pub returns-in_default-clause-sides : goal.returns-in_default-clause-sides
returns-in_default-clause-sides c t refers u w = c.in_default.ensures.other t u w refers

pub returns-clause-sides : goal.returns-clause-sides
returns-clause-sides c =
    rw c.new.ensures (λ t refers. denial_of c.args.symbols.now c.args.terms.now c.in-Some.found t (c.in-Some.ensures.sides t refers))
