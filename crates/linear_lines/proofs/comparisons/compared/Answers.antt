-- What an application to two terms says, if they are of Int.
use Rattle.std.proofs.Common.{sym, ◌∙◌, subst}
use Rattle.std.proofs.lemmas.Bool.{false≢true}
use Rattle.term_model.specs.Sorts.{IsWellSorted}
use Rattle.term_pool.specs.Views.{RefersTo}
use Rattle.linear_lines.specs.Operands.{AreOperands}
use Rattle.linear_lines.proofs.ComparisonLemmas.{same_sorted, says_nothing, not_found, found_numbers, found_others}
use Rattle.linear_lines.proofs.comparisons.compared.Goals as goal

pub returns-in_default-clause-read : goal.returns-in_default-clause-read
returns-in_default-clause-read c t refers =
    says_nothing c.args.symbols.now c.args.terms.now t c.args.truth (λ op. c.in_default.ensures.other op t refers)

pub returns-in_default-said-clause-read : goal.returns-in_default-said-clause-read
returns-in_default-said-clause-read c t refers =
    let s = c.args.symbols.now in
    let v = c.args.terms.now in
    let p = c.operands-a.result in
    let are : AreOperands s v c.in-Some.op p t = (rw c.binary_operator.ensures.same at c.operands-a.ensures.operands) t refers in
    not_found s v c.in-Some.op p t are c.args.truth (c.in_default-said.ensures s v are.first are.second are.first_refers are.second_refers)

pub returns-then-not-is_of_numbers-clause-read : goal.returns-then-not-is_of_numbers-clause-read
returns-then-not-is_of_numbers-clause-read c t refers =
    let s = c.args.symbols.now in
    let v = c.args.terms.now in
    let p = c.operands-a.result in
    let are : AreOperands s v c.in-Some.op p t = (rw c.binary_operator.ensures.same at c.operands-a.ensures.operands) t refers in
    let back = sym (c.operands-a.ensures.same ∙ c.binary_operator.ensures.same) in
    let sorted = same_sorted s v c.args.r t (c.equal_exactly_where_terms_are.ensures s c.leaves_differ.ensures.table) c.requires refers in
    found_others s v c.in-Some.op p t are c.args.truth
    (λ first. false≢true ((c.if-not-is_of_numbers.ensures.number are.first are.second (subst (λ w. RefersTo s w p.0 are.first) back are.first_refers) (subst IsWellSorted are.is sorted)).1 first))

pub returns-clause-read : goal.returns-clause-read
returns-clause-read c t refers =
    let s = c.args.symbols.now in
    let v = c.args.terms.now in
    let p = c.operands-a.result in
    let are : AreOperands s v c.in-Some.op p t = (rw c.binary_operator.ensures.same at c.operands-a.ensures.operands) t refers in
    let back = sym (c.operands-a.ensures.same ∙ c.binary_operator.ensures.same) in
    let sorted = same_sorted s v c.args.r t (c.equal_exactly_where_terms_are.ensures s c.leaves_differ.ensures.table) c.requires refers in
    found_numbers s v c.in-Some.op p t are c.args.truth c.in-Some-said.comparison (c.in-Some-said.ensures s v are.first are.second are.first_refers are.second_refers) sorted
    ((c.is_of_numbers.ensures.number are.first are.second (subst (λ w. RefersTo s w p.0 are.first) back are.first_refers) (subst IsWellSorted are.is sorted)).0 c.if-not-is_of_numbers.false)
