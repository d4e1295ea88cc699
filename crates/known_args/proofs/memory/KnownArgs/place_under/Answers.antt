use Rattle.std.proofs.Common.{◌≡◌, ◌∙◌, length, sym}
use Rattle.std.proofs.lemmas.Bool.{eqb-true}
use Rattle.schema_match.proofs.ArgumentLemmas.{unsigned_is_term}
use Rattle.known_args.proofs.ApplicationLemmas.{row_loaded, row_empty, term_known, not_empty}
use Rattle.known_args.proofs.memory.KnownArgs.place_under.Goals as goal

pub place-requires-clause-known : goal.place-requires-clause-known
place-requires-clause-known c =
    term_known c.args.symbols.now c.headed.new.terms c.in-Some.term
    (unsigned_is_term c.args.symbols.now c.args.terms.now c.headed.new.terms c.args.sign c.args.literal c.in-Some.term c.headed.ensures.same c.requires.literal
    c.in-Some.ensures.signed)

pub returns-then-is_empty-clause-other : goal.returns-then-is_empty-clause-other
returns-then-is_empty-clause-other c t literal =
    let arguments = (rw (c.headed.ensures.same, ← c.row-arguments.ensures) at c.in_ok-place.ensures.arguments) c.args.symbols.now in
    let empty : length c.row-arguments.result.now.1 ≡ 0 = eqb-true _ 0 (rw (← c.items.ensures) (sym c.is_empty.ensures ∙ c.if-is_empty.true)) in
    row_empty c.args.symbols.now c.args.terms.now c.args.op c.args.sign c.args.literal c.in-Some.term c.in-Some.ensures.signed c.in-Some.ensures.headed
    c.row-arguments.result.now.1 arguments empty t literal

pub returns-clause-arguments : goal.returns-clause-arguments
returns-clause-arguments c t literal =
    let arguments = (rw (c.headed.ensures.same, ← c.row-arguments.ensures) at c.in_ok-place.ensures.arguments) c.args.symbols.now in
    let some = not_empty c.row-arguments.result.now.1 c.items.result.now c.is_empty.result c.items.ensures c.is_empty.ensures c.if-is_empty.false in
    rw (← c.row-arguments.ensures)
    (row_loaded c.args.symbols.now c.args.terms.now c.args.op c.args.sign c.args.literal c.in-Some.term c.in-Some.ensures.signed c.in-Some.ensures.headed
    c.row-arguments.result.now.1 arguments some t literal)
