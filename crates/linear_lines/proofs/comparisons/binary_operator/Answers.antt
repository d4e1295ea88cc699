-- By the leaf of the head and the number of arguments.
use Rattle.std.proofs.Common.{◌≡◌, subst, rules}
use Rattle.sym_table.specs.Table.{functions_before}
use Rattle.term_parts.specs.Parts.{IsOver}
use Rattle.term_parts.proofs.PartLemmas.{over_is, let_is_not_over}
use Rattle.linear_lines.proofs.ComparisonLemmas.{head_below, no_operator, operator_is, other_count}
use Rattle.linear_lines.proofs.comparisons.binary_operator.Goals as goal

pub returns-in_default-clause-other : goal.returns-in_default-clause-other
returns-in_default-clause-other c op t refers =
    let_is_not_over 2 op t (c.in_default.ensures.let_term c.args.symbols.now t c.leaves_differ.ensures.table refers)

pub kind-requires : goal.kind-requires
kind-requires c =
    head_below c.args.symbols.now c.in-Some.head c.requires.means
    (c.in-Some.ensures.application c.args.symbols.now c.requires.means c.leaves_differ.ensures.table c.requires.refers)

pub returns-in_default-kind-clause-other : goal.returns-in_default-kind-clause-other
returns-in_default-kind-clause-other c op t refers =
    no_operator c.args.symbols.now c.in-Some.head (functions_before c.args.symbols.now c.in-Some.head) 2 c.kind.result t c.kind.ensures.kind c.in_default-kind.not-Op
    (c.in-Some.ensures.application c.args.symbols.now t c.leaves_differ.ensures.table refers) op

pub returns-then-arg_count-ne2-clause-other : goal.returns-then-arg_count-ne2-clause-other
returns-then-arg_count-ne2-clause-other c op t refers =
    let same : c.head.new.self ≡ c.args.terms.now = search rules in
    other_count c.arg_count.result 2 t c.if-arg_count-ne2.true ((rw same at c.arg_count.ensures.count) c.args.symbols.now t refers) op

pub returns-clause-binary : goal.returns-clause-binary
returns-clause-binary c t refers =
    let same : c.head.new.self ≡ c.args.terms.now = search rules in
    let s = c.args.symbols.now in
    let k = c.in-Some.head in
    subst (λ n. IsOver c.in-Op.op n t) c.if-arg_count-ne2.false
    (over_is s k c.arg_count.result c.in-Op.op t (operator_is s k (functions_before s k) c.in-Op.op c.in-Op.ensures.kind) (c.in-Some.ensures.application s t c.leaves_differ.ensures.table refers)
    (λ is. (rw same at c.arg_count.ensures.count) s t refers is))
