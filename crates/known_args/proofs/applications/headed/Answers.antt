use Rattle.std.proofs.Common.{None, refl}
use Rattle.schema_match.proofs.ArgumentLemmas.{none_loaded, unsigned_is_term}
use Rattle.term_parts.proofs.PartLemmas.{let_is_not_over, other_head, over_is}
use Rattle.known_args.proofs.ApplicationLemmas.{term_known}
use Rattle.known_args.proofs.applications.headed.Goals as goal

pub head-requires : goal.head-requires
head-requires c =
    term_known c.args.symbols.now c.unsigned.new.terms c.in-Some.term
    (unsigned_is_term c.args.symbols.now c.args.terms.now c.unsigned.new.terms c.args.sign c.args.literal c.in-Some.term c.unsigned.ensures.same c.requires
    c.in-Some.ensures.signed)

pub returns-in_default-clause-other : goal.returns-in_default-clause-other
returns-in_default-clause-other c t refers first others = c.in_default.ensures.other t _ refers

pub returns-in_default-head-clause-other : goal.returns-in_default-head-clause-other
returns-in_default-head-clause-other c =
    let s = c.args.symbols.now in
    let same = c.unsigned.ensures.same in
    none_loaded s c.args.terms.now c.args.op c.args.sign c.args.literal c.in-Some.term c.in-Some.ensures.signed None tt
    (λ u refers n. let_is_not_over n c.args.op u ((rw same at c.in_default-head.ensures.let_term) s u c.leaves_differ.ensures.table refers)) refl

pub returns-then-head-operator-clause-other : goal.returns-then-head-operator-clause-other
returns-then-head-operator-clause-other c =
    let s = c.args.symbols.now in
    let same = c.unsigned.ensures.same in
    let table = c.leaves_differ.ensures.table in
    none_loaded s c.args.terms.now c.args.op c.args.sign c.args.literal c.in-Some.term c.in-Some.ensures.signed None tt
    (λ u refers n. other_head s c.operator.result c.in-Some-head.head n c.args.op u table c.operator.ensures.leaf c.if-head-operator.true
    ((rw same at c.in-Some-head.ensures.application) s u table refers)) refl

pub returns-clause-headed : goal.returns-clause-headed
returns-clause-headed c t refers =
    let s = c.args.symbols.now in
    let same = c.unsigned.ensures.same in
    over_is s c.in-Some-head.head _ c.args.op t (rw c.if-head-operator.false c.operator.ensures.leaf)
    ((rw same at c.in-Some-head.ensures.application) s t c.leaves_differ.ensures.table refers) (λ is. refl)
