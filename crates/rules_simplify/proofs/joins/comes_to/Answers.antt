use Rattle.std.proofs.Common.{refl, inl, inr}
use Rattle.std.proofs.lemmas.Result.{IfOk-weaker}
use Rattle.rules_simplify.proofs.JoinLemmas.{told_apart}
use Rattle.rules_simplify.proofs.joins.comes_to.Goals as goal

pub returns-then-branch-clause-joins : goal.returns-then-branch-clause-joins
returns-then-branch-clause-joins c ts t list right =
    (λ e. inl ((c.in_ok-is_absorbed.ensures.absorbed ts t list right).0 c.if-branch.true), λ h. refl)

pub returns-clause-joins : goal.returns-clause-joins
returns-clause-joins c =
    let s = c.args.symbols.now in
    let v = c.args.terms.now in
    let one = c.equal_exactly_where_terms_are.ensures s c.leaves_differ.ensures.table in
    IfOk-weaker c.is_shorter.result _ _ (λ b tells ts t list right.
    let test = tells s v c.args.junction ts t one (c.constant.ensures v) c.requires.side list right in (
      λ e. inr (test.0 e),
      λ h. elim h [
        | inl absorbed ↦ absurd (told_apart _ ((c.in_ok-is_absorbed.ensures.absorbed ts t list right).1 absorbed) c.if-branch.false)
        | inr shorter ↦ test.1 shorter
      ],
    )) c.is_shorter.ensures
