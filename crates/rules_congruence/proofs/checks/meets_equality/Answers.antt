use Rattle.std.proofs.lemmas.Result.{IfOk-weaker}
use Rattle.rules_congruence.proofs.StepLemmas.{none_left, cong_by, eq_congruent_by, eq_congruent_pred_by}
use Rattle.rules_congruence.proofs.checks.meets_equality.Goals as goal

pub returns-in-Symm-clause-met : goal.returns-in-Symm-clause-met
returns-in-Symm-clause-met c = rw c.in-Symm.is c.turns_round.ensures.met

pub returns-in-NotSymm-clause-met : goal.returns-in-NotSymm-clause-met
returns-in-NotSymm-clause-met c = rw c.in-NotSymm.is c.turns_round-in-NotSymm.ensures.met

pub returns-in-EqReflexive-clause-met : goal.returns-in-EqReflexive-clause-met
returns-in-EqReflexive-clause-met c = rw c.in-EqReflexive.is c.is_reflexive.ensures.met

pub returns-in-EqSymmetric-clause-met : goal.returns-in-EqSymmetric-clause-met
returns-in-EqSymmetric-clause-met c = rw c.in-EqSymmetric.is c.is_symmetric.ensures.met

pub returns-in-Trans-clause-met : goal.returns-in-Trans-clause-met
returns-in-Trans-clause-met c = rw c.in-Trans.is c.meets_trans.ensures.met

pub returns-in-EqTransitive-clause-met : goal.returns-in-EqTransitive-clause-met
returns-in-EqTransitive-clause-met c = rw c.in-EqTransitive.is c.meets_eq_transitive.ensures.met

pub returns-in-Cong-clause-met : goal.returns-in-Cong-clause-met
returns-in-Cong-clause-met c =
    rw c.in-Cong.is
    (IfOk-weaker c.meets_cong.result _ _
    (λ b test ps ts premises clause. cong_by c.args.step.mode b ps ts (test ps ts premises clause))
    (rw c.uses_of.ensures at c.meets_cong.ensures.met))

pub returns-in-EqCongruent-clause-met : goal.returns-in-EqCongruent-clause-met
returns-in-EqCongruent-clause-met c =
    rw c.in-EqCongruent.is
    (IfOk-weaker c.meets_eq_congruent.result _ _
    (λ b test ps ts premises clause. eq_congruent_by c.args.step.mode b ps ts (test ps ts premises clause))
    (rw c.denied_uses_of.ensures at c.meets_eq_congruent.ensures.met))

pub returns-in-EqCongruentPred-clause-met : goal.returns-in-EqCongruentPred-clause-met
returns-in-EqCongruentPred-clause-met c =
    rw c.in-EqCongruentPred.is
    (IfOk-weaker c.meets_eq_congruent_pred.result _ _
    (λ b test ps ts premises clause. eq_congruent_pred_by c.args.step.mode b ps ts (test ps ts premises clause))
    (rw c.denied_uses_of-in-EqCongruentPred.ensures at c.meets_eq_congruent_pred.ensures.met))

pub unreachable-requires : goal.unreachable-requires
unreachable-requires c =
    let left = c.in_default in
    none_left c.args.step.rule c.requires.family left.not-Symm left.not-NotSymm left.not-EqReflexive left.not-EqSymmetric left.not-Trans
    left.not-EqTransitive left.not-Cong left.not-EqCongruent left.not-EqCongruentPred
