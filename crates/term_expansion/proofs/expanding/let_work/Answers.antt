-- The body and the values stand below the let.
use Rattle.std.proofs.Common.{◌-◌}
use Rattle.term_expansion.proofs.Expansions as lemma
use Rattle.term_expansion.proofs.Heights as heights
use Rattle.term_expansion.proofs.Needing.{values_moved}
use Rattle.term_expansion.proofs.TermParts.{is_let_term}
use Rattle.term_expansion.proofs.expanding.let_work.Goals as goal

pub let_parts-requires : goal.let_parts-requires
let_parts-requires c =
    is_let_term c.args.symbols.now _ _ c.requires.is_let (heights.is_term c.args.symbols.now c.args.terms.now c.args.most c.args.r c.requires.low)

pub overflow_sub-most : goal.overflow_sub-most
overflow_sub-most c = heights.positive c.args.symbols.now c.args.terms.now c.args.most c.args.r c.requires.low

pub needs_of-requires-clause-low : goal.needs_of-requires-clause-low
needs_of-requires-clause-low c =
    heights.low_moved c.args.symbols.now c.args.terms.now c.let_parts.new.terms (c.args.most - 1) c.in_ok-parts.parts.body c.let_parts.ensures.same
    (heights.body_low c.args.symbols.now c.args.terms.now c.args.most c.args.r c.in_ok-parts.parts.body c.requires.low c.requires.is_let (c.in_ok-parts.ensures.body c.args.symbols.now))

pub returns-clause-work : goal.returns-clause-work
returns-clause-work c =
    let p = c.in_ok-parts.parts in
    let g = c.in_ok-given.given in
    lemma.let_work_from c.args.symbols.now c.args.terms.now c.let_parts.new.terms c.needs_of.new.terms c.args.r p.body p.variables.items p.values.items c.deref.result.now c.deref-2.result.now c.in_ok-inside.inside.items c.deref-3.result.now g.variables.items g.values.items c.in_ok-values.values
    c.leaves_differ.ensures.table c.let_parts.ensures.same c.needs_of.ensures.same (c.equal_exactly_where_terms_are.ensures c.args.symbols.now c.leaves_differ.ensures.table) c.requires.is_let c.in_ok-parts.ensures.bindings c.in_ok-parts.ensures.body c.in_ok-inside.ensures.leaves
    c.deref.ensures.value c.deref-2.ensures.value c.deref-3.ensures.value c.in_ok-values.ensures c.in_ok-given.ensures.given

pub returns-clause-body_low : goal.returns-clause-body_low
returns-clause-body_low c =
    heights.body_low c.args.symbols.now c.args.terms.now c.args.most c.args.r c.in_ok-parts.parts.body c.requires.low c.requires.is_let (c.in_ok-parts.ensures.body c.args.symbols.now)

pub returns-clause-values_low : goal.returns-clause-values_low
returns-clause-values_low c =
    let p = c.in_ok-parts.parts in
    let g = c.in_ok-given.given in
    let by_leaves = values_moved c.in_ok-values.values c.deref.result.now p.variables.items c.deref-2.result.now p.values.items c.deref.ensures.value c.deref-2.ensures.value c.in_ok-values.ensures in
    heights.given_low c.args.symbols.now c.args.terms.now (c.args.most - 1) p.variables.items p.values.items c.deref-3.result.now g.variables.items g.values.items
    (heights.values_low c.args.symbols.now c.args.terms.now c.args.most c.args.r p.variables.items p.values.items c.requires.low c.requires.is_let (c.in_ok-parts.ensures.bindings c.args.symbols.now))
    (c.in_ok-given.ensures.given p.variables.items p.values.items by_leaves).are
