use Rattle.std.proofs.lemmas.Result.{IfOk-weaker}
use Rattle.schema_match.proofs.StepTerms.{sides_of_step}
use Rattle.term_parts.proofs.JudgingLemmas.{truths_are_terms}
use Rattle.rules_simplify.proofs.CheckLemmas.{rewriting_is, no_rewriting}
use Rattle.rules_simplify.proofs.checks.meets_rewriting.Goals as goal

pub equation-requires : goal.equation-requires
equation-requires c = truths_are_terms c.args.step.clause.now c.requires.clause

pub returns-in_default-clause-meets : goal.returns-in_default-clause-meets
returns-in_default-clause-meets c ps ts premises clause = no_rewriting ps ts c.args.table (λ u w. c.in_default.ensures.other ps ts u w premises clause)

pub simplifies-requires-clause-left : goal.simplifies-requires-clause-left
simplifies-requires-clause-left c = rw c.equation.ensures.same (sides_of_step c.args.step _ c.requires c.in-Some.ensures.equation).0

pub simplifies-requires-clause-right : goal.simplifies-requires-clause-right
simplifies-requires-clause-right c = rw c.equation.ensures.same (sides_of_step c.args.step _ c.requires c.in-Some.ensures.equation).1

pub returns-clause-meets : goal.returns-clause-meets
returns-clause-meets c =
    IfOk-weaker c.simplifies.result _ _ (λ b test ps ts premises clause.
    let is = c.in-Some.ensures.equation ps ts premises clause in
    rewriting_is c.args.symbols.now c.args.terms.now _ c.args.table ps ts b is (test is.left is.right is.left_refers is.right_refers))
    (rw c.equation.ensures.same at c.simplifies.ensures.simplifies)
