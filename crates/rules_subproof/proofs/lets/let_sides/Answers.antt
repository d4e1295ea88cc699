use Rattle.std.proofs.Common.{◌≡◌, ◌∙◌, IsTrue, true, false, sym, subst, arith, rules}
use Rattle.std.specs.Option.{is_some}
use Rattle.term_pool.proofs.References.{refer_are_terms}
use Rattle.rule_model.specs.Reading.{clause_at}
use Rattle.rules_subproof.proofs.LetSides.{is_let_term, no_application, none_holds, inner_clause, let_refers, right_same, body_same, let_found}
use Rattle.rules_subproof.proofs.ScopePlaces.{scope_within, last_before}
use Rattle.rules_subproof.proofs.lets.let_sides.Goals as goal

not_true : IsTrue false → ⊥
not_true e = cc

pub last_inside-requires : goal.last_inside-requires
last_inside-requires c = scope_within c.args.proof.now c.args.i c.args.scope c.requires.closes

pub clause-requires : goal.clause-requires
clause-requires c =
    let before = last_before c.args.proof.now c.args.i c.args.scope c.requires.closes c.in-Some.last (sym c.last_inside.ensures ∙ c.in-Some.is) in
    let within = c.requires.index in omega arith

pub unit_sides-requires : goal.unit_sides-requires
unit_sides-requires c =
    rw c.clause.ensures (refer_are_terms c.args.symbols.now c.args.terms.now _ _ (c.terms_correspond.ensures.clause c.args.symbols.now c.args.terms.now c.args.proof.now _ c.in-Some.last c.requires.stand.stand))

pub returns-in_default-unit_sides-clause-none : goal.returns-in_default-unit_sides-clause-none
returns-in_default-unit_sides-clause-none c of bs t u stands h =
    (rw c.clause.ensures at c.in_default-unit_sides.ensures.other) (clause_at of c.in-Some.last) t u (c.terms_correspond.ensures.clause c.args.symbols.now c.args.terms.now c.args.proof.now of c.in-Some.last stands)
    (inner_clause of c.args.i c.args.scope c.in-Some.last (sym (c.terms_correspond.ensures.last_inside c.args.symbols.now c.args.terms.now c.args.proof.now of c.args.scope stands) ∙ (sym c.last_inside.ensures ∙ c.in-Some.is)) bs t u h)

pub unit_sides-requires-2 : goal.unit_sides-requires-2
unit_sides-requires-2 c =
    rw (c.unit_sides.ensures.same, c.clause-2.ensures) (refer_are_terms c.args.symbols.now c.args.terms.now _ _ (c.terms_correspond.ensures.clause c.args.symbols.now c.args.terms.now c.args.proof.now _ c.args.i c.requires.stand.stand))

pub returns-in_default-unit_sides-2-clause-none : goal.returns-in_default-unit_sides-2-clause-none
returns-in_default-unit_sides-2-clause-none c of bs t u stands h =
    (rw (c.unit_sides.ensures.same, c.clause-2.ensures) at c.in_default-unit_sides-2.ensures.other) (clause_at of c.args.i) _ _ (c.terms_correspond.ensures.clause c.args.symbols.now c.args.terms.now c.args.proof.now of c.args.i stands) h.clause

pub head-requires : goal.head-requires
head-requires c =
    let unit = ((rw (c.unit_sides.ensures.same, c.clause-2.ensures) at c.in-Some-unit_sides-2.ensures.sides) (clause_at c.requires.stand.proof c.args.i) (c.terms_correspond.ensures.clause c.args.symbols.now c.args.terms.now c.args.proof.now c.requires.stand.proof c.args.i c.requires.stand.stand)) in
    rw (c.unit_sides-2.ensures.same, c.unit_sides.ensures.same) (record { tree = unit.left_refers.tree; stands = unit.left_refers.known })

pub returns-then-is_some-clause-none : goal.returns-then-is_some-clause-none
returns-then-is_some-clause-none c of bs t u stands h =
    let some : is_some c.head.result ≡ true = search rules in
    no_application c.args.symbols.now c.args.terms.now c.in-Some-unit_sides-2.sides c.head.result some (rw (c.unit_sides-2.ensures.same, c.unit_sides.ensures.same) at c.head.ensures.application) c.leaves_differ.ensures.table bs t
    (let_refers of c.args.i c.args.scope c.in-Some.last (sym (c.terms_correspond.ensures.last_inside c.args.symbols.now c.args.terms.now c.args.proof.now of c.args.scope stands) ∙ (sym c.last_inside.ensures ∙ c.in-Some.is)) c.args.symbols.now c.args.terms.now (λ p q a b g k. c.equal_exactly_where_terms_are.ensures c.args.symbols.now c.leaves_differ.ensures.table p q a b g k) c.in-Some-unit_sides-2.sides c.in-Some-unit_sides.inner ((rw (c.unit_sides.ensures.same, c.clause-2.ensures) at c.in-Some-unit_sides-2.ensures.sides) (clause_at of c.args.i) (c.terms_correspond.ensures.clause c.args.symbols.now c.args.terms.now c.args.proof.now of c.args.i stands)) ((rw c.clause.ensures at c.in-Some-unit_sides.ensures.sides) (clause_at of c.in-Some.last) (c.terms_correspond.ensures.clause c.args.symbols.now c.args.terms.now c.args.proof.now of c.in-Some.last stands)) bs t u h)

pub let_body-requires : goal.let_body-requires
let_body-requires c =
    let none : is_some c.head.result ≡ false = search rules in
    let same : c.head.new.self ≡ c.args.terms.now = search rules in
    rw same
    (is_let_term c.args.symbols.now c.args.terms.now c.in-Some-unit_sides-2.sides _ ((rw (c.unit_sides.ensures.same, c.clause-2.ensures) at c.in-Some-unit_sides-2.ensures.sides) (clause_at c.requires.stand.proof c.args.i) (c.terms_correspond.ensures.clause c.args.symbols.now c.args.terms.now c.args.proof.now c.requires.stand.proof c.args.i c.requires.stand.stand))
    (λ t refers. none_holds c.head.result none (rw (c.unit_sides-2.ensures.same, c.unit_sides.ensures.same) at c.head.ensures.let_term) c.args.symbols.now t c.leaves_differ.ensures.table refers))

pub returns-then-not-are_identical-clause-none : goal.returns-then-not-are_identical-clause-none
returns-then-not-are_identical-clause-none c of bs t u stands h =
    let before : c.head.new.self ≡ c.args.terms.now = search rules in
    let after : c.let_body.new.self ≡ c.args.terms.now = search rules in
    not_true (subst IsTrue c.if-not-are_identical.true (c.are_identical.ensures.1
    (body_same of c.args.i c.args.scope c.in-Some.last (sym (c.terms_correspond.ensures.last_inside c.args.symbols.now c.args.terms.now c.args.proof.now of c.args.scope stands) ∙ (sym c.last_inside.ensures ∙ c.in-Some.is)) c.args.symbols.now c.args.terms.now (λ p q a b g k. c.equal_exactly_where_terms_are.ensures c.args.symbols.now c.leaves_differ.ensures.table p q a b g k) c.in-Some-unit_sides-2.sides c.in-Some-unit_sides.inner ((rw (c.unit_sides.ensures.same, c.clause-2.ensures) at c.in-Some-unit_sides-2.ensures.sides) (clause_at of c.args.i) (c.terms_correspond.ensures.clause c.args.symbols.now c.args.terms.now c.args.proof.now of c.args.i stands)) ((rw c.clause.ensures at c.in-Some-unit_sides.ensures.sides) (clause_at of c.in-Some.last) (c.terms_correspond.ensures.clause c.args.symbols.now c.args.terms.now c.args.proof.now of c.in-Some.last stands))
    c.let_body.result (λ b w. (rw (after, before) at c.let_body.ensures.body) c.args.symbols.now b w) bs t u h)))

pub returns-then-not-are_identical-2-clause-none : goal.returns-then-not-are_identical-2-clause-none
returns-then-not-are_identical-2-clause-none c of bs t u stands h =
    not_true (subst IsTrue c.if-not-are_identical-2.true (c.are_identical-2.ensures.1
    (right_same of c.args.i c.args.scope c.in-Some.last (sym (c.terms_correspond.ensures.last_inside c.args.symbols.now c.args.terms.now c.args.proof.now of c.args.scope stands) ∙ (sym c.last_inside.ensures ∙ c.in-Some.is)) c.args.symbols.now c.args.terms.now (λ p q a b g k. c.equal_exactly_where_terms_are.ensures c.args.symbols.now c.leaves_differ.ensures.table p q a b g k) c.in-Some-unit_sides-2.sides c.in-Some-unit_sides.inner ((rw (c.unit_sides.ensures.same, c.clause-2.ensures) at c.in-Some-unit_sides-2.ensures.sides) (clause_at of c.args.i) (c.terms_correspond.ensures.clause c.args.symbols.now c.args.terms.now c.args.proof.now of c.args.i stands)) ((rw c.clause.ensures at c.in-Some-unit_sides.ensures.sides) (clause_at of c.in-Some.last) (c.terms_correspond.ensures.clause c.args.symbols.now c.args.terms.now c.args.proof.now of c.in-Some.last stands)) bs t u h)))

pub returns-clause-found : goal.returns-clause-found
returns-clause-found c of stands =
    let none : is_some c.head.result ≡ false = search rules in
    let before : c.head.new.self ≡ c.args.terms.now = search rules in
    let after : c.let_body.new.self ≡ c.args.terms.now = search rules in
    let_found of c.args.i c.args.scope c.in-Some.last (sym (c.terms_correspond.ensures.last_inside c.args.symbols.now c.args.terms.now c.args.proof.now of c.args.scope stands) ∙ (sym c.last_inside.ensures ∙ c.in-Some.is)) c.args.symbols.now c.args.terms.now (λ p q a b g k. c.equal_exactly_where_terms_are.ensures c.args.symbols.now c.leaves_differ.ensures.table p q a b g k) c.in-Some-unit_sides-2.sides c.in-Some-unit_sides.inner ((rw (c.unit_sides.ensures.same, c.clause-2.ensures) at c.in-Some-unit_sides-2.ensures.sides) (clause_at of c.args.i) (c.terms_correspond.ensures.clause c.args.symbols.now c.args.terms.now c.args.proof.now of c.args.i stands)) ((rw c.clause.ensures at c.in-Some-unit_sides.ensures.sides) (clause_at of c.in-Some.last) (c.terms_correspond.ensures.clause c.args.symbols.now c.args.terms.now c.args.proof.now of c.in-Some.last stands))
    c.let_body.result (λ b w. (rw (after, before) at c.let_body.ensures.body) c.args.symbols.now b w)
    (λ t refers. none_holds c.head.result none (rw (c.unit_sides-2.ensures.same, c.unit_sides.ensures.same) at c.head.ensures.let_term) c.args.symbols.now t c.leaves_differ.ensures.table refers) (c.are_identical.ensures.0 c.if-not-are_identical.false) (c.are_identical-2.ensures.0 c.if-not-are_identical-2.false)
