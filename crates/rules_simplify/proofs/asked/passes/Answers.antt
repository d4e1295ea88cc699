-- By the letters that are asked of.
use Rattle.std.proofs.Common.{sym, subst, refl}
use Rattle.rules_simplify.specs.Asking.{IsAsAsked}
use Rattle.rules_simplify.proofs.asked.passes.Goals as goal

pub returns-in-Nothing-clause-passes : goal.returns-in-Nothing-clause-passes
returns-in-Nothing-clause-passes c f agrees = (λ e. subst (IsAsAsked f) (sym c.in-Nothing.is) tt, λ h. refl)
