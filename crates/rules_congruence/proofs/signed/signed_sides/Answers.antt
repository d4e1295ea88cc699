use Rattle.rules_congruence.proofs.signed.signed_sides.Goals as goal

pub returns-then-denied-clause-sides : goal.returns-then-denied-clause-sides
returns-then-denied-clause-sides c = rw c.if-denied.true c.denied_sides.ensures.sides

pub returns-then-denied-clause-other : goal.returns-then-denied-clause-other
returns-then-denied-clause-other c = rw c.if-denied.true c.denied_sides.ensures.other

pub returns-else-denied-clause-sides : goal.returns-else-denied-clause-sides
returns-else-denied-clause-sides c = rw c.if-denied.false c.sides_of.ensures.sides

pub returns-else-denied-clause-other : goal.returns-else-denied-clause-other
returns-else-denied-clause-other c = rw c.if-denied.false c.sides_of.ensures.other
