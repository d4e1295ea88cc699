use Rattle.std.proofs.Common.{◌≡◌, rules}
use Rattle.schema_match.proofs.applications.over.Goals as goal
use Rattle.term_parts.proofs.PartLemmas.{over_is, other_head, let_is_not_over}

pub returns-in_default-clause-other : goal.returns-in_default-clause-other
returns-in_default-clause-other c t refers n h =
    let_is_not_over n c.args.op t (c.in_default.ensures.let_term c.args.symbols.now t c.leaves_differ.ensures.table refers) h

pub returns-then-head-operator-clause-other : goal.returns-then-head-operator-clause-other
returns-then-head-operator-clause-other c t refers n =
    other_head c.args.symbols.now c.operator.result c.in-Some.head n c.args.op t c.leaves_differ.ensures.table c.operator.ensures.leaf c.if-head-operator.true
    (c.in-Some.ensures.application c.args.symbols.now t c.leaves_differ.ensures.table refers)

pub returns-clause-over : goal.returns-clause-over
returns-clause-over c t refers =
    let same : c.head.new.self ≡ c.args.terms.now = search rules in
    over_is c.args.symbols.now c.in-Some.head c.arg_count.result c.args.op t (rw c.if-head-operator.false c.operator.ensures.leaf)
    (c.in-Some.ensures.application c.args.symbols.now t c.leaves_differ.ensures.table refers)
    (λ is. (rw same at c.arg_count.ensures.count) c.args.symbols.now t refers is)
