use Rattle.std.proofs.Common.{sym, ◌∙◌}
use Rattle.term_model.specs.declared.symbols.Op.{Op}
use Rattle.term_model.specs.Terms.{operation, no_terms}
use Rattle.term_pool.specs.Views.{RefersTo}
use Rattle.rules_resolution.proofs.TermLiterals.{operator_refers, plain_image, true_image, false_image}
use Rattle.rules_resolution.proofs.references.bare_literal.Goals as goal

pub returns-then-number : goal.returns-then-number
returns-then-number c t refers bare =
    let constant = operator_refers c.args.symbols.now c.args.terms.now c.leaf-always.result c.operator.result Op.True (c.leaf-always.ensures.stands c.args.terms.now.pass) c.operator.ensures.leaf in
    let same = c.equal_exactly_where_terms_are.ensures c.args.symbols.now c.leaves_differ.ensures.table c.args.bare c.leaf-always.result t (operation Op.True no_terms) refers constant in
    rw c.truth.ensures (true_image (RefersTo c.args.symbols.now c.args.terms.now) c.args.negative t (same.0 (sym c.number.ensures.number ∙ (c.if-number.true ∙ c.number-2.ensures.number))))

pub returns-then-number-2 : goal.returns-then-number-2
returns-then-number-2 c t refers bare =
    let constant = operator_refers c.args.symbols.now c.args.terms.now c.leaf-never.result c.operator-2.result Op.False (c.leaf-never.ensures.stands c.args.terms.now.pass) c.operator-2.ensures.leaf in
    let same = c.equal_exactly_where_terms_are.ensures c.args.symbols.now c.leaves_differ.ensures.table c.args.bare c.leaf-never.result t (operation Op.False no_terms) refers constant in
    rw c.truth-then-number-2.ensures (false_image (RefersTo c.args.symbols.now c.args.terms.now) c.args.negative t (same.0 (sym c.number-3.ensures.number ∙ (c.if-number-2.true ∙ c.number-4.ensures.number))))

pub returns : goal.returns
returns c t refers bare =
    let always = operator_refers c.args.symbols.now c.args.terms.now c.leaf-always.result c.operator.result Op.True (c.leaf-always.ensures.stands c.args.terms.now.pass) c.operator.ensures.leaf in
    let never = operator_refers c.args.symbols.now c.args.terms.now c.leaf-never.result c.operator-2.result Op.False (c.leaf-never.ensures.stands c.args.terms.now.pass) c.operator-2.ensures.leaf in
    let no_true = c.equal_exactly_where_terms_are.ensures c.args.symbols.now c.leaves_differ.ensures.table c.args.bare c.leaf-always.result t (operation Op.True no_terms) refers always in
    let no_false = c.equal_exactly_where_terms_are.ensures c.args.symbols.now c.leaves_differ.ensures.table c.args.bare c.leaf-never.result t (operation Op.False no_terms) refers never in
    plain_image (RefersTo c.args.symbols.now c.args.terms.now) c.number-5.result c.args.negative t (rw c.number-5.ensures.number refers) bare
    (λ e. c.if-number.false (c.number.ensures.number ∙ (no_true.1 e ∙ sym c.number-2.ensures.number)))
    (λ e. c.if-number-2.false (c.number-3.ensures.number ∙ (no_false.1 e ∙ sym c.number-4.ensures.number)))
