use Rattle.std.proofs.Common.{sym, ◌∙◌}
use Rattle.schema_match.proofs.ArgumentLemmas.{so_many_loaded, unsigned_is_term, none_loaded, loaded}
use Rattle.schema_match.proofs.arguments.load_arguments.Goals as goal

pub returns-in_default-clause-other : goal.returns-in_default-clause-other
returns-in_default-clause-other c t refers first others = c.in_default.ensures.other t _ refers

pub over-requires : goal.over-requires
over-requires c =
    unsigned_is_term c.args.symbols.now c.args.terms.now c.unsigned.new.terms c.args.sign c.args.literal c.in-Some.whole c.unsigned.ensures.same c.requires c.in-Some.ensures.signed

pub returns-then-count-eq0-clause-other : goal.returns-then-count-eq0-clause-other
returns-then-count-eq0-clause-other c =
    let same = c.unsigned.ensures.same in
    none_loaded c.args.symbols.now c.args.terms.now c.args.op c.args.sign c.args.literal c.in-Some.whole c.in-Some.ensures.signed
    c.over.result (rw same at c.over.ensures.over) (rw same at c.over.ensures.other) (sym c.unwrap_or-count.ensures ∙ c.if-count-eq0.true)

pub read_arguments-requires-clause-count : goal.read_arguments-requires-clause-count
read_arguments-requires-clause-count c =
    rw c.unwrap_or-count.ensures
    (so_many_loaded c.args.symbols.now c.unsigned.new.terms c.over.new.terms c.args.op c.in-Some.whole c.over.result c.over.ensures.same
    (unsigned_is_term c.args.symbols.now c.args.terms.now c.unsigned.new.terms c.args.sign c.args.literal c.in-Some.whole c.unsigned.ensures.same c.requires c.in-Some.ensures.signed)
    c.over.ensures.over (λ e. c.if-count-eq0.false (c.unwrap_or-count.ensures ∙ e)))

pub returns-clause-loaded : goal.returns-clause-loaded
returns-clause-loaded c =
    let same = c.unsigned.ensures.same in
    let new = c.read_arguments.new.into.items in
    let arguments = rw (c.over.ensures.same, same, c.unwrap_or-count.ensures) at c.in_ok-read_arguments.ensures.arguments in
    loaded c.args.symbols.now c.args.terms.now c.args.op c.args.sign c.args.literal c.in-Some.whole c.in-Some.ensures.signed
    c.over.result new (rw same at c.over.ensures.over) (λ e. c.if-count-eq0.false (c.unwrap_or-count.ensures ∙ e)) (arguments c.args.symbols.now)
