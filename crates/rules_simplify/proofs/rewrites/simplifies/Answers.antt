use Rattle.std.proofs.lemmas.Bool.{OnTrue_at, OnFalse_at}
use Rattle.std.proofs.lemmas.Result.{IfOk-weaker}
use Rattle.rules_simplify.specs.Tables.{rows_of}
use Rattle.rules_simplify.proofs.ChainLemmas.{none_simplifies}
use Rattle.rules_simplify.proofs.rewrites.simplifies.Goals as goal

pub returns-then-not-branch-clause-simplifies : goal.returns-then-not-branch-clause-simplifies
returns-then-not-branch-clause-simplifies c t u left right = (
  λ e. absurd cc,
  λ h. absurd (none_simplifies (rows_of c.args.table) t u (OnFalse_at c.if-not-branch.true c.in_ok-open.ensures.other t left) h),
)

pub simplifies_at-requires-clause-at : goal.simplifies_at-requires-clause-at
simplifies_at-requires-clause-at c =
    rw c.open.ensures.same
    (record { means = c.requires.left.means; is = OnTrue_at c.if-not-branch.false c.in_ok-open.ensures.open c.requires.left.means c.requires.left.refers })

pub returns-clause-simplifies : goal.returns-clause-simplifies
returns-clause-simplifies c =
    IfOk-weaker c.simplifies_at.result _ _ (λ b test t u left right. test t u (OnTrue_at c.if-not-branch.false c.in_ok-open.ensures.open t left) right)
    (rw c.open.ensures.same at c.simplifies_at.ensures.simplifies)
