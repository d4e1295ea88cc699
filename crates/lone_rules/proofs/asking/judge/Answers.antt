use Rattle.std.proofs.lemmas.Result.{IfOk-weaker}
use Rattle.lone_rules.proofs.asking.judge.Goals as goal

pub returns-in-Clausal-clause-met : goal.returns-in-Clausal-clause-met
returns-in-Clausal-clause-met c = IfOk-weaker c.meets_knowing.result _ _ (λ a told j stands. told j stands.step) c.meets_knowing.ensures.met

pub returns-in-Congruence-clause-met : goal.returns-in-Congruence-clause-met
returns-in-Congruence-clause-met c = IfOk-weaker c.meets.result _ _ (λ a told j stands. told j stands.step) c.meets.ensures.met

pub returns-in-Ite-clause-met : goal.returns-in-Ite-clause-met
returns-in-Ite-clause-met c = IfOk-weaker c.meets-in-Ite.result _ _ (λ a told j stands. told j stands.step) c.meets-in-Ite.ensures.met

pub returns-in-Simplify-clause-met : goal.returns-in-Simplify-clause-met
returns-in-Simplify-clause-met c = IfOk-weaker c.meets-in-Simplify.result _ _ (λ a told j stands. told j stands.step) c.meets-in-Simplify.ensures.met

pub returns-in-Arith-clause-met : goal.returns-in-Arith-clause-met
returns-in-Arith-clause-met c =
    IfOk-weaker c.meets-in-Arith.result _ _ (λ a told j stands. told j (record { step = stands.step; ratios = stands.ratios }))
    c.meets-in-Arith.ensures.met
