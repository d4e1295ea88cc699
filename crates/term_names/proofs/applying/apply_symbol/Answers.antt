use Rattle.std.proofs.Common.{arith, ap, map, sym, ◌+◌, ◌∙◌}
use Rattle.term_names.specs.declared.faults.ReadFault.{ReadFault}
use Rattle.term_names.proofs.AppliedSymbols.{symbol-below, symbol-head, values-known, values-refer}
use Rattle.term_names.proofs.AppliedSymbols.{not-applied, not-divided, application-made, application-full}
use Rattle.term_names.proofs.MadeTerms.{handed_on}
use Rattle.term_names.proofs.ValueLists.{greatest-low}
use Rattle.term_names.proofs.applying.apply_symbol.Goals as goal

pub overflow_add-height : goal.overflow_add-height
overflow_add-height c =
    let low = greatest-low c.args.from c.args.values.now c.requires.low in
    let e = c.highest_from-height.ensures in
    omega arith

pub app-requires-clause-head : goal.app-requires-clause-head
app-requires-clause-head c =
    let (m, ts, symbol, values) = c.requires.symbol in
    let few = c.leaves_differ.ensures.few in
    let below = symbol-below c.args.symbols.now c.args.leaf m symbol in
    omega arith

pub app-requires-clause-args : goal.app-requires-clause-args
app-requires-clause-args c =
    let (m, ts, symbol, values) = c.requires.symbol in
    rw (c.divides_rightly.ensures.same, c.terms_from-args.ensures) (values-known c.args.symbols.now c.args.terms.now _ ts values)

pub divides_rightly-requires-clause-head : goal.divides_rightly-requires-clause-head
divides_rightly-requires-clause-head c = let (m, ts, symbol, values) = c.requires.symbol in symbol-head c.args.symbols.now c.args.leaf m symbol

pub divides_rightly-requires-clause-args : goal.divides_rightly-requires-clause-args
divides_rightly-requires-clause-args c =
    let (m, ts, symbol, values) = c.requires.symbol in
    (map (λ t. t.tree) ts, rw c.terms_from-args.ensures (values-refer c.args.symbols.now c.args.terms.now _ ts values))

pub returns-in_default-clause-makes : goal.returns-in_default-clause-makes
returns-in_default-clause-makes c =
    λ m ts symbol values.
    not-applied _ c.args.terms.now c.args.leaf _ m ts symbol values c.sorts_from.result.now c.sorts_from.ensures c.check_app.result c.check_app.ensures.sort
    c.in_default.is

pub returns-clause-makes : goal.returns-clause-makes
returns-clause-makes c =
    λ m ts symbol values.
    application-made _ c.args.terms.now c.args.leaf _ m ts symbol values c.sorts_from.result.now c.sorts_from.ensures c.check_app.result c.check_app.ensures.sort
    c.app.new.self c.in-Some.sort c.in-Some.is
    (λ us t refer app. sym c.if-not-divides_rightly.false ∙ (rw c.terms_from-args.ensures at c.divides_rightly.ensures.divides) us t refer app)
    c.trees_are_built_of_parts.ensures.application c.in_ok-term.term _ _
    (rw (c.divides_rightly.ensures.same, c.terms_from-args.ensures) at c.in_ok-term.ensures.term) (rw (c.divides_rightly.ensures.same, c.terms_from-args.ensures) at c.in_ok-term.ensures.built)
    (ap (λ n. 1 + n) c.highest_from-height.ensures) c.all_plain_from-plain.ensures

pub returns-in_err-term-clause-makes : goal.returns-in_err-term-clause-makes
returns-in_err-term-clause-makes c =
    λ m ts symbol values.
    application-full _ c.args.terms.now c.args.leaf _ m ts symbol values c.sorts_from.result.now c.sorts_from.ensures c.check_app.result c.check_app.ensures.sort
    c.app.new.self c.in-Some.sort c.in-Some.is
    (λ us t refer app. sym c.if-not-divides_rightly.false ∙ (rw c.terms_from-args.ensures at c.divides_rightly.ensures.divides) us t refer app)
    c.trees_are_built_of_parts.ensures.application c.from_residual.result
    (rw (c.divides_rightly.ensures.same, c.terms_from-args.ensures) at c.in_err-term.ensures.full) (handed_on c.from_residual.result ReadFault.PoolFull c.from_residual.ensures.1)

pub returns-then-not-divides_rightly-clause-makes : goal.returns-then-not-divides_rightly-clause-makes
returns-then-not-divides_rightly-clause-makes c =
    λ m ts symbol values.
    rw c.divides_rightly.ensures.same
    (not-divided c.args.symbols.now c.args.terms.now c.args.leaf _ m ts symbol values c.sorts_from.result.now c.sorts_from.ensures c.check_app.result c.check_app.ensures.sort
    (λ us t refer app. sym c.if-not-divides_rightly.true ∙ (rw c.terms_from-args.ensures at c.divides_rightly.ensures.divides) us t refer app))
