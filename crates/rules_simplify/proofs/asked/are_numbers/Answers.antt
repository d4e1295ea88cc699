-- By the numbers of the constants.
use Rattle.std.proofs.Common.{FitsSigned, rules}
use Rattle.std.proofs.lemmas.Int.{to_z-of_z}
use Rattle.rules_simplify.proofs.AskingLemmas.{numbers_are, not_first, not_second}
use Rattle.rules_simplify.proofs.asked.are_numbers.Goals as goal

pub returns-in_default-clause-numbers : goal.returns-in_default-clause-numbers
returns-in_default-clause-numbers c t u first second = not_first c.args.test t u (c.in_default.ensures.constant t first)

pub returns-in_default-constant-clause-numbers : goal.returns-in_default-constant-clause-numbers
returns-in_default-constant-clause-numbers c t u first second =
    not_second c.args.test t u ((rw c.constant.ensures.same at c.in_default-constant.ensures.constant) u second)

pub returns-clause-numbers : goal.returns-clause-numbers
returns-clause-numbers c t u first second =
    let one : FitsSigned mir.Syntax.w128 c.in-Some.m = search rules in
    let two : FitsSigned mir.Syntax.w128 c.in-Some-constant.n = search rules in
    let told = rw (to_z-of_z _ _ one, to_z-of_z _ _ two) at c.is_passed.ensures in
    numbers_are c.args.test t u c.in-Some.m c.in-Some-constant.n c.is_passed.result (c.in-Some.ensures.constant t first)
    ((rw c.constant.ensures.same at c.in-Some-constant.ensures.constant) u second) told
