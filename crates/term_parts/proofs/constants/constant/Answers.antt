-- By the numeral under `-`, or by the term itself.
use Rattle.std.proofs.Common.{◌∙◌, Some, FitsSigned, sym, ap, rules, arith}
use Rattle.std.proofs.lemmas.Bool.{false≢true}
use Rattle.term_model.specs.declared.symbols.Op.{Op}
use Rattle.term_parts.proofs.PartLemmas.{has_argument}
use Rattle.term_parts.proofs.ConstantLemmas.{no_minus, minus_refers, minus_number, minus_no_number, negated_back}
use Rattle.term_parts.proofs.constants.constant.Goals as goal

pub returns-then-not-is_over-clause-constant : goal.returns-then-not-is_over-clause-constant
returns-then-not-is_over-clause-constant c t refers =
    (rw c.is_over.ensures.same at c.numeral.ensures.numeral) t refers
    ∙ no_minus t (λ over. false≢true (sym c.if-not-is_over.true ∙ (c.is_over.ensures.over t refers).1 over))

pub nth_arg-inner-requires : goal.nth_arg-inner-requires
nth_arg-inner-requires c =
    rw c.is_over.ensures.same
    (has_argument c.args.symbols.now c.args.terms.now c.args.r 1 0 Op.Minus c.requires
    (λ t refers. (c.is_over.ensures.over t refers).0 c.if-not-is_over.false) (omega arith))

pub numeral-requires-2 : goal.numeral-requires-2
numeral-requires-2 c =
    let t = c.requires.means in
    let argument = rw c.is_over.ensures.same at c.nth_arg-inner.ensures.argument in
    let minus = minus_refers c.args.symbols.now c.nth_arg-inner.new.self c.nth_arg-inner.result t ((c.is_over.ensures.over t c.requires.refers).0 c.if-not-is_over.false)
    (λ x at. argument c.args.symbols.now t x c.requires.refers at) in
    record { means = minus.inner; refers = minus.refers }

pub returns-in_default-clause-constant : goal.returns-in_default-clause-constant
returns-in_default-clause-constant c t refers =
    let argument = rw c.is_over.ensures.same at c.nth_arg-inner.ensures.argument in
    let minus = minus_refers c.args.symbols.now c.nth_arg-inner.new.self c.nth_arg-inner.result t ((c.is_over.ensures.over t refers).0 c.if-not-is_over.false)
    (λ x at. argument c.args.symbols.now t x refers at) in
    minus_no_number c.args.symbols.now c.nth_arg-inner.new.self c.nth_arg-inner.result t minus (c.in_default.ensures.numeral minus.inner minus.refers)

pub returns-clause-constant : goal.returns-clause-constant
returns-clause-constant c t refers =
    let fits : FitsSigned mir.Syntax.w128 c.in-Some.n = search rules in
    let argument = rw c.is_over.ensures.same at c.nth_arg-inner.ensures.argument in
    let minus = minus_refers c.args.symbols.now c.nth_arg-inner.new.self c.nth_arg-inner.result t ((c.is_over.ensures.over t refers).0 c.if-not-is_over.false)
    (λ x at. argument c.args.symbols.now t x refers at) in
    ap Some (negated_back c.in-Some.n c.in-Some.ensures.natural fits)
    ∙ minus_number c.args.symbols.now c.nth_arg-inner.new.self c.nth_arg-inner.result t minus c.in-Some.n (c.in-Some.ensures.numeral minus.inner minus.refers)
