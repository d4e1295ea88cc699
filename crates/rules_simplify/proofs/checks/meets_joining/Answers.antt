use Rattle.std.proofs.lemmas.Result.{IfOk-weaker}
use Rattle.schema_match.proofs.StepTerms.{sides_of_step}
use Rattle.sort_check.proofs.Leaves.{sorted_is_term}
use Rattle.term_parts.proofs.JudgingLemmas.{truths_are_terms}
use Rattle.rules_simplify.proofs.CheckLemmas.{joining_is, no_joining}
use Rattle.rules_simplify.proofs.checks.meets_joining.Goals as goal

pub equation-requires : goal.equation-requires
equation-requires c = truths_are_terms c.args.step.clause.now c.requires.step.clause

pub returns-in_default-clause-meets : goal.returns-in_default-clause-meets
returns-in_default-clause-meets c ps ts premises clause = no_joining ps ts c.args.junction (λ u w. c.in_default.ensures.other ps ts u w premises clause)

pub joins-requires-clause-left : goal.joins-requires-clause-left
joins-requires-clause-left c =
    rw c.equation.ensures.same
    (sorted_is_term c.args.symbols.now c.args.terms.now _ (sides_of_step c.args.step _ c.requires.step c.in-Some.ensures.equation).0)

pub joins-requires-clause-right : goal.joins-requires-clause-right
joins-requires-clause-right c = rw c.equation.ensures.same (sides_of_step c.args.step _ c.requires.step c.in-Some.ensures.equation).1

pub returns-clause-meets : goal.returns-clause-meets
returns-clause-meets c =
    IfOk-weaker c.joins.result _ _ (λ b test ps ts premises clause.
    let is = c.in-Some.ensures.equation ps ts premises clause in
    joining_is c.args.symbols.now c.args.terms.now _ c.args.junction ps ts b is (test is.left is.right is.left_refers is.right_refers))
    (rw c.equation.ensures.same at c.joins.ensures.joins)
