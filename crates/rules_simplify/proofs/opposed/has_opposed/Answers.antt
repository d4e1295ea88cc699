use Rattle.std.proofs.Common.{refl}
use Rattle.rules_simplify.proofs.opposed.has_opposed.Goals as goal

pub returns-then-has_negation-clause-opposed : goal.returns-then-has_negation-clause-opposed
returns-then-has_negation-clause-opposed c ts refer = (λ e. c.has_negation.ensures.opposed c.if-has_negation.true ts refer, λ h. refl)

pub returns-clause-opposed : goal.returns-clause-opposed
returns-clause-opposed c = rw (c.items.ensures, c.has_negation.ensures.same) at c.meets_opposed.ensures.opposed
