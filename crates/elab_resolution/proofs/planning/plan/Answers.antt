use Rattle.std.proofs.Common.{subst}
use Rattle.chain_plan.specs.Plans.{AreMet}
use Rattle.clause_chain.specs.Chaining.{clauses_of}
use Rattle.elab_resolution.proofs.planning.plan.Goals as goal

pub returns-clause-met : goal.returns-clause-met
returns-clause-met c terms named =
    subst (λ given. AreMet terms (clauses_of given) c.in_ok-steps.steps.items) c.deref.ensures.value (c.in_ok-steps.ensures.met terms named)
