use Rattle.std.proofs.Common.{◌++◌}
use Rattle.rule_model.specs.Congruence.{denials}
use Rattle.elab_denials.proofs.PredicateLemmas.{gives_either, gives_two}
use Rattle.elab_denials.proofs.predicates.implied_either.Goals as goal

pub unreachable-requires : goal.unreachable-requires
unreachable-requires c =
    let p = c.args.at.now in
    let one = c.equal_exactly_where_terms_are.ensures p.symbols.now c.leaves_differ.ensures.table in
    gives_two p c.args.terms.now one c.requires.implies (rw c.clause.ensures at c.in_default.ensures.other)

pub unreachable-requires-in_default-found-2 : goal.unreachable-requires-in_default-found-2
unreachable-requires-in_default-found-2 c =
    let p = c.args.at.now in
    let v = c.args.terms.now in
    let one = c.equal_exactly_where_terms_are.ensures p.symbols.now c.leaves_differ.ensures.table in
    let g = c.requires.given in
    let k = c.requires.implies in
    let q = c.in-Some.literals in
    gives_either p v one k g.sides (g.given.are (denials k.es ++ k.rest) k.stands) q.0 q.1 (rw c.clause.ensures at c.in-Some.ensures.split)
    (λ premises t u links left right. (rw c.in_default-found.is at c.in_ok-found.ensures.none) g.sides premises t u g.given.is_table links left right)
    (λ premises t u links left right.
    (rw (c.in_ok-found.ensures.same, c.in_default-found-2.is) at c.in_ok-found-2.ensures.none) g.sides premises t u g.given.is_table links left right)
