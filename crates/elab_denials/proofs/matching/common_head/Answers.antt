use Rattle.std.proofs.Common.{◌≡◌, rules}
use Rattle.elab_denials.proofs.HeadLemmas.{no_let, one_head}
use Rattle.elab_denials.proofs.matching.common_head.Goals as goal

pub returns-in_default-clause-other : goal.returns-in_default-clause-other
returns-in_default-clause-other c t u left right head ts us e f =
    no_let head ts t e (c.in_default.ensures.let_term c.args.symbols.now t c.leaves_differ.ensures.table left)

pub returns-in_default-head-clause-other : goal.returns-in_default-head-clause-other
returns-in_default-head-clause-other c t u left right head ts us e f =
    let same : c.head.new.self ≡ c.args.terms.now = search rules in
    no_let head us u f ((rw same at c.in_default-head.ensures.let_term) c.args.symbols.now u c.leaves_differ.ensures.table right)

pub returns-then-head-other-clause-other : goal.returns-then-head-other-clause-other
returns-then-head-other-clause-other c t u left right head ts us e f =
    let same : c.head.new.self ≡ c.args.terms.now = search rules in
    one_head c.args.symbols.now c.in-Some.head c.in-Some-head.other head ts us t u c.leaves_differ.ensures.table e f
    (c.in-Some.ensures.application c.args.symbols.now t c.leaves_differ.ensures.table left)
    ((rw same at c.in-Some-head.ensures.application) c.args.symbols.now u c.leaves_differ.ensures.table right) c.if-head-other.true
