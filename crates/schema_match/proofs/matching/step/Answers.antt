use Rattle.std.proofs.Common.{refl}
use Rattle.std.proofs.lemmas.Bool.{OnTrue_from, OnFalse_from}
use Rattle.schema_match.specs.Letters.{slot}
use Rattle.schema_match.proofs.OverLemmas.{so_many, not_so_many, has_so_many}
use Rattle.schema_match.proofs.Steps.{letter_read, letter_refused, operator_read, operator_other}
use Rattle.schema_match.proofs.matching.step.Goals as goal

pub returns-then-ne-clause-refused : goal.returns-then-ne-clause-refused
returns-then-ne-clause-refused c whole rest ts left =
    let s = c.args.symbols.now in
    let v = c.args.terms.now in
    let one = c.equal_exactly_where_terms_are.ensures s c.leaves_differ.ensures.table in
    operator_other s v one whole rest ts c.args.stack.now.items c.args.r c.args.letters.now c.in-Apply.op c.in-Apply.count
    (not_so_many s v c.args.r c.in-Apply.count c.in-Apply.op c.over.result c.over.ensures.over c.over.ensures.other c.if-ne.ensures)
    (rw c.in-Apply.is at left)

pub returns-in-Any-clause-read : goal.returns-in-Any-clause-read
returns-in-Any-clause-read c =
    let s = c.args.symbols.now in
    let v = c.args.terms.now in
    let one = c.equal_exactly_where_terms_are.ensures s c.leaves_differ.ensures.table in
    OnTrue_from c.settle.result _ (λ yes whole rest ts left.
    letter_read s v one whole rest ts c.args.stack.now.items c.args.r c.args.letters.now c.settle.new.self c.in-Any.letter (slot c.args.letters.now c.in-Any.letter) c.settle.result
    refl c.settle.ensures.settled c.settle.ensures.new yes (rw c.in-Any.is at left))

pub returns-in-Any-clause-refused : goal.returns-in-Any-clause-refused
returns-in-Any-clause-refused c =
    let s = c.args.symbols.now in
    let v = c.args.terms.now in
    let one = c.equal_exactly_where_terms_are.ensures s c.leaves_differ.ensures.table in
    OnFalse_from c.settle.result _ (λ no whole rest ts left.
    letter_refused s v one whole rest ts c.args.stack.now.items c.args.r c.args.letters.now c.settle.new.self c.in-Any.letter (slot c.args.letters.now c.in-Any.letter) c.settle.result
    refl c.settle.ensures.settled c.settle.ensures.new no (rw c.in-Any.is at left))

pub push_arguments-requires : goal.push_arguments-requires
push_arguments-requires c =
    has_so_many c.args.symbols.now c.args.terms.now c.over.new.terms c.args.r c.in-Apply.count c.in-Apply.op c.over.ensures.same c.requires
    (so_many c.args.symbols.now c.args.terms.now c.args.r c.in-Apply.count c.in-Apply.op c.over.result c.over.ensures.over c.if-ne.ensures)

pub returns-in_ok-push_arguments-in-Apply-clause-read :
    goal.returns-in_ok-push_arguments-in-Apply-clause-read
returns-in_ok-push_arguments-in-Apply-clause-read c whole rest ts left =
    let s = c.args.symbols.now in
    let v = c.args.terms.now in
    let one = c.equal_exactly_where_terms_are.ensures s c.leaves_differ.ensures.table in
    operator_read s v one whole rest ts c.args.stack.now.items c.args.r c.args.letters.now c.in-Apply.op c.in-Apply.count c.push_arguments.new.stack.items
    (so_many s v c.args.r c.in-Apply.count c.in-Apply.op c.over.result c.over.ensures.over c.if-ne.ensures)
    (rw c.over.ensures.same at c.in_ok-push_arguments-in-Apply.ensures.pushed)
    (rw c.in-Apply.is at left)
