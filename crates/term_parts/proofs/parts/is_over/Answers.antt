use Rattle.std.proofs.Common.{◌≡◌, rules}
use Rattle.term_parts.proofs.PartLemmas.{over_exactly, other_head, let_is_not_over, false_is}
use Rattle.term_parts.proofs.parts.is_over.Goals as goal

pub returns-in_default-clause-over : goal.returns-in_default-clause-over
returns-in_default-clause-over c t refers =
    false_is (let_is_not_over c.args.count c.args.op t (c.in_default.ensures.let_term c.args.symbols.now t c.leaves_differ.ensures.table refers))

pub returns-then-head-operator-clause-over : goal.returns-then-head-operator-clause-over
returns-then-head-operator-clause-over c t refers =
    false_is (other_head c.args.symbols.now c.operator.result c.in-Some.head c.args.count c.args.op t c.leaves_differ.ensures.table c.operator.ensures.leaf c.if-head-operator.true
    (c.in-Some.ensures.application c.args.symbols.now t c.leaves_differ.ensures.table refers))

pub returns-clause-over : goal.returns-clause-over
returns-clause-over c t refers =
    let same : c.head.new.self ≡ c.args.terms.now = search rules in
    over_exactly c.args.symbols.now c.in-Some.head c.arg_count.result c.args.count c.args.op t (rw c.if-head-operator.false c.operator.ensures.leaf)
    (c.in-Some.ensures.application c.args.symbols.now t c.leaves_differ.ensures.table refers)
    (λ is. (rw same at c.arg_count.ensures.count) c.args.symbols.now t refers is)
