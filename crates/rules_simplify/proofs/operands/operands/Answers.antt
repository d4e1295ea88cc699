use Rattle.std.proofs.Common.{◌≡◌, ◌∙◌, sym, rules, arith}
use Rattle.term_parts.proofs.PartLemmas.{has_argument}
use Rattle.rules_simplify.proofs.OperandLemmas.{two_are_over, operands_are}
use Rattle.rules_simplify.proofs.operands.operands.Goals as goal

pub returns-then-not-is_over-clause-other : goal.returns-then-not-is_over-clause-other
returns-then-not-is_over-clause-other c t x y refers e =
    let clash = sym c.if-not-is_over.true ∙ (c.is_over.ensures.over t refers).1 (two_are_over c.args.op t x y e) in cc

pub nth_arg-first-requires : goal.nth_arg-first-requires
nth_arg-first-requires c =
    rw c.is_over.ensures.same
    (has_argument c.args.symbols.now c.args.terms.now c.args.r 2 0 c.args.op c.requires
    (λ t refers. (c.is_over.ensures.over t refers).0 c.if-not-is_over.false) (omega arith))

pub nth_arg-second-requires : goal.nth_arg-second-requires
nth_arg-second-requires c =
    let kept : c.nth_arg-first.new.self ≡ c.is_over.new.terms = search rules in
    rw (kept, c.is_over.ensures.same)
    (has_argument c.args.symbols.now c.args.terms.now c.args.r 2 1 c.args.op c.requires
    (λ t refers. (c.is_over.ensures.over t refers).0 c.if-not-is_over.false) (omega arith))

pub returns-clause-operands : goal.returns-clause-operands
returns-clause-operands c t refers =
    let kept : c.nth_arg-first.new.self ≡ c.is_over.new.terms = search rules in
    let second_kept : c.nth_arg-second.new.self ≡ c.nth_arg-first.new.self = search rules in
    let first = rw (kept, c.is_over.ensures.same) at c.nth_arg-first.ensures.argument in
    let second = rw (second_kept, kept, c.is_over.ensures.same) at c.nth_arg-second.ensures.argument in
    operands_are c.args.symbols.now c.args.terms.now c.args.op c.nth_arg-first.result c.nth_arg-second.result t
    ((c.is_over.ensures.over t refers).0 c.if-not-is_over.false)
    (λ x at. first c.args.symbols.now t x refers at) (λ x at. second c.args.symbols.now t x refers at)
