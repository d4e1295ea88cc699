-- One negation after the other.
use Rattle.std.proofs.Common.{◌≡◌, List, sym, subst, map}
use Rattle.term_model.specs.Terms.{Term, not_of}
use Rattle.term_pool.specs.Views.{ReferToAll}
use Rattle.term_pool.proofs.Keeping.{terms-trans}
use Rattle.lia_answers.proofs.Room.{clause_more, held_more, full}
use Rattle.lia_answers.proofs.negating.negations_of.Goals as goal

pub returns-in_default-clause-full : goal.returns-in_default-clause-full
returns-in_default-clause-full c =
    full c.args.symbols.now c.args.terms.now c.refs.terms c.negation_of.new.terms c.args.refs.now c.refs.r-index c.r-item.result
    c.refs.invariant.keeps c.in_default.ensures.keeps
    c.refs-test.true c.r-item.is c.in_default.ensures.placed c.in_default.ensures.full c.refs.invariant.held
    (λ pass terms most shares one order holds lacks cells.
    c.full_pools_have_few_places.ensures c.args.symbols.now pass terms most c.leaves_differ.ensures.table shares one order holds lacks cells)
    c.one_to_one.ensures c.terms_at.ensures.lists

pub refs-preserved : goal.refs-preserved
refs-preserved c =
    let s = c.args.symbols.now in
    let v = c.args.terms.now in
    let mid = c.refs.terms in
    let new = c.negation_of.new.terms in
    let refs = c.args.refs.now in
    record {
      keeps = terms-trans v mid new c.refs.invariant.keeps c.in-Ok.ensures.keeps;
      clause = λ ts zip.
          subst (λ rs. ReferToAll s new rs (map not_of ts)) (sym c.in_ok-push.ensures.items)
          (clause_more s v mid new refs c.refs.r-index c.r-item.result c.refs.invariant.keeps c.in-Ok.ensures.keeps c.refs-test.true c.r-item.is
          c.refs.clause.items c.in-Ok.negation
          c.in-Ok.ensures.term c.refs.invariant.clause ts zip);
      held =
          held_more s v mid new refs c.refs.r-index c.r-item.result c.refs.invariant.keeps c.in-Ok.ensures.keeps c.refs-test.true c.r-item.is
          c.in-Ok.ensures.placed c.refs.invariant.held;
    }
