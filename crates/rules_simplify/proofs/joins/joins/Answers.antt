use Rattle.std.proofs.Common.{[], ◌∷◌}
use Rattle.std.proofs.lemmas.Result.{IfOk-weaker}
use Rattle.term_pool.proofs.References.{refer_are_terms}
use Rattle.rules_simplify.proofs.JoinLemmas.{told_apart, constant_told, joined_none, joined_some, joined_other}
use Rattle.rules_simplify.proofs.joins.joins.Goals as goal

pub returns-then-is_same-clause-joins : goal.returns-then-is_same-clause-joins
returns-then-is_same-clause-joins c =
    let s = c.args.symbols.now in
    let v = c.args.terms.now in
    let one = c.equal_exactly_where_terms_are.ensures s c.leaves_differ.ensures.table in
    IfOk-weaker c.comes_to-then-is_same.result _ _ (λ b test t u left right.
    let is = constant_told s v one c.args.junction.op c.args.sides.0 c.constant.result t left (c.constant.ensures v) c.is_same.result c.is_same.ensures in
    joined_none c.args.junction t u b (is.0 c.if-is_same.true) (test [] u tt right))
    (rw (c.right_side.ensures.same, c.none.ensures, c.in_ok-side.ensures.term) at c.comes_to-then-is_same.ensures.joins)

pub returns-in_default-clause-joins : goal.returns-in_default-clause-joins
returns-in_default-clause-joins c t u left right =
    let s = c.args.symbols.now in
    let v = c.args.terms.now in
    let one = c.equal_exactly_where_terms_are.ensures s c.leaves_differ.ensures.table in
    let is = constant_told s v one c.args.junction.op c.args.sides.0 c.constant.result t left (c.constant.ensures v) c.is_same.result c.is_same.ensures in
    joined_other c.args.junction t u (λ e. told_apart _ (is.1 e) c.if-is_same.false)
    ((rw (c.in_default.is, c.right_side.ensures.same) at c.in_ok-place.ensures.other) t left)

pub comes_to-requires-2-clause-arguments : goal.comes_to-requires-2-clause-arguments
comes_to-requires-2-clause-arguments c =
    let loaded = (rw (c.in-Some.is, ← c.row.ensures, c.right_side.ensures.same) at c.in_ok-place.ensures.arguments) c.requires.left.means c.requires.left.refers in
    rw (c.place_under.ensures.same, c.right_side.ensures.same)
    (refer_are_terms c.args.symbols.now c.args.terms.now _ (loaded.first ∷ loaded.others) loaded.refer)

pub returns-clause-joins : goal.returns-clause-joins
returns-clause-joins c =
    IfOk-weaker c.comes_to-2.result _ _ (λ b test t u left right.
    let loaded = (rw (c.in-Some.is, ← c.row.ensures, c.right_side.ensures.same) at c.in_ok-place.ensures.arguments) t left in
    joined_some c.args.junction t u (loaded.first ∷ loaded.others) b loaded.is (test (loaded.first ∷ loaded.others) u loaded.refer right))
    (rw (c.place_under.ensures.same, c.right_side.ensures.same, c.in_ok-side.ensures.term) at c.comes_to-2.ensures.joins)
