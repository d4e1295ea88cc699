use Rattle.std.proofs.Common.{◌↔◌, IsTrue, refl, sym, subst}
use Rattle.lone_rules.specs.LoneRules.{IsMetAlone}
use Rattle.lone_rules.proofs.Lone.{told_of, lone_is_step}
use Rattle.lone_rules.proofs.asking.is_met.Goals as goal

pub judge_lone-requires-clause-step : goal.judge_lone-requires-clause-step
judge_lone-requires-clause-step c = lone_is_step c.args.symbols.now c.args.terms.now _ refl c.requires.clause

pub returns-clause-met : goal.returns-clause-met
returns-clause-met c = λ ts refers.
    subst (λ b. IsTrue b ↔ IsMetAlone ts c.args.rule) (sym c.says_met.ensures)
    (told_of c.args.symbols.now c.args.terms.now _ c.in_ok-answer.answer c.args.rule ts c.in_ok-answer.ensures.met refl refl refl refers)
