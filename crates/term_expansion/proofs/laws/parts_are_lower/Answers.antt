use Rattle.term_expansion.proofs.Heights.{positive, arguments_low, values_low, body_low}
use Rattle.term_expansion.proofs.laws.parts_are_lower.Goals as goal

pub returns-clause-some : goal.returns-clause-some
returns-clause-some c s v most r low = positive s v most r low

pub returns-clause-arguments : goal.returns-clause-arguments
returns-clause-arguments c s v most r list low arguments = arguments_low s v most r list low arguments

pub returns-clause-values : goal.returns-clause-values
returns-clause-values c s v most r vars values low is bindings = values_low s v most r vars values low is bindings

pub returns-clause-body : goal.returns-clause-body
returns-clause-body c s v most r body low is bodies = body_low s v most r body low is bodies
