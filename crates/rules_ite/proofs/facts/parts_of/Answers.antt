use Rattle.std.proofs.Common.{◌≡◌, refl, rules, arith}
use Rattle.term_model.specs.declared.symbols.Op.{Op}
use Rattle.term_model.specs.Terms.{no_terms, term}
use Rattle.schema_match.proofs.OverLemmas.{is_over}
use Rattle.rules_ite.proofs.FactLemmas.{parts_are}
use Rattle.rules_ite.proofs.PlaceLemmas.{has_place}
use Rattle.rules_ite.proofs.facts.parts_of.Goals as goal

pub returns-then-not-is_over-clause-other : goal.returns-then-not-is_over-clause-other
returns-then-not-is_over-clause-other c t d u w refers e =
    let holds = (c.is_over.ensures.over t refers).1 (is_over Op.Ite 3 t (term d (term u (term w no_terms))) e refl) in
    let fails = c.if-not-is_over.true in absurd cc

pub nth_arg-condition-requires : goal.nth_arg-condition-requires
nth_arg-condition-requires c =
    has_place c.args.symbols.now c.args.terms.now c.is_over.new.terms c.args.r 3 0 Op.Ite c.is_over.ensures.same c.requires
    (λ t refers. (c.is_over.ensures.over t refers).0 c.if-not-is_over.false) (omega arith)

pub nth_arg-first-requires : goal.nth_arg-first-requires
nth_arg-first-requires c =
    let kept : c.nth_arg-condition.new.self ≡ c.is_over.new.terms = search rules in
    rw kept
    (has_place c.args.symbols.now c.args.terms.now c.is_over.new.terms c.args.r 3 1 Op.Ite c.is_over.ensures.same c.requires
    (λ t refers. (c.is_over.ensures.over t refers).0 c.if-not-is_over.false) (omega arith))

pub nth_arg-second-requires : goal.nth_arg-second-requires
nth_arg-second-requires c =
    let kept : c.nth_arg-condition.new.self ≡ c.is_over.new.terms = search rules in
    let first_kept : c.nth_arg-first.new.self ≡ c.nth_arg-condition.new.self = search rules in
    rw (first_kept, kept)
    (has_place c.args.symbols.now c.args.terms.now c.is_over.new.terms c.args.r 3 2 Op.Ite c.is_over.ensures.same c.requires
    (λ t refers. (c.is_over.ensures.over t refers).0 c.if-not-is_over.false) (omega arith))

pub returns-clause-parts : goal.returns-clause-parts
returns-clause-parts c t refers =
    let s = c.args.symbols.now in
    let v = c.args.terms.now in
    let kept : c.nth_arg-condition.new.self ≡ c.is_over.new.terms = search rules in
    let first_kept : c.nth_arg-first.new.self ≡ c.nth_arg-condition.new.self = search rules in
    let second_kept : c.nth_arg-second.new.self ≡ c.nth_arg-first.new.self = search rules in
    let condition = rw (kept, c.is_over.ensures.same) at c.nth_arg-condition.ensures.argument in
    let first = rw (first_kept, kept, c.is_over.ensures.same) at c.nth_arg-first.ensures.argument in
    let second = rw (second_kept, first_kept, kept, c.is_over.ensures.same) at c.nth_arg-second.ensures.argument in
    parts_are s v c.nth_arg-condition.result c.nth_arg-first.result c.nth_arg-second.result t
    ((c.is_over.ensures.over t refers).0 c.if-not-is_over.false)
    (λ b at. condition s t b refers at) (λ b at. first s t b refers at) (λ b at. second s t b refers at)
