use Rattle.std.proofs.Common.{inl, inr, refl}
use Rattle.std.proofs.lemmas.Result.{IfOk-weaker}
use Rattle.rules_simplify.proofs.rewrites.simplifies_at.Goals as goal

pub returns-then-branch-clause-simplifies : goal.returns-then-branch-clause-simplifies
returns-then-branch-clause-simplifies c t u here right =
    let test = c.in_ok-any_rewrites.ensures.any t u here right in
    (λ e. inl (test.0 c.if-branch.true), λ h. refl)

pub reaches-requires-clause-at : goal.reaches-requires-clause-at
reaches-requires-clause-at c = rw c.any_rewrites.ensures.same c.requires.at

pub returns-clause-simplifies : goal.returns-clause-simplifies
returns-clause-simplifies c =
    IfOk-weaker c.reaches.result _ _ (λ b test t u here right.
    let any = c.in_ok-any_rewrites.ensures.any t u here right in
    let chain = test t u here right in (
      λ e. inr (chain.0 e),
      λ h. elim h [
        | inl found ↦ absurd (let holds = any.1 found in let fails = c.if-branch.false in cc)
        | inr reached ↦ chain.1 reached
      ],
    )) (rw c.any_rewrites.ensures.same at c.reaches.ensures.reaches)
