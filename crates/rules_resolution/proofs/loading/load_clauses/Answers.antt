use Rattle.std.proofs.Common.{get_or, subst, arith, ◌∙◌}
use Rattle.std.specs.List.{AllZip}
use Rattle.rules_resolution.proofs.Loaded.{lists_more}
use Rattle.rules_resolution.proofs.loading.load_clauses.Goals as goal

pub loop-place-preserved : goal.loop-place-preserved
loop-place-preserved g c =
    let is = g.T.OfTerm.is_of c.args.symbols.now c.args.terms.now in
    let k = c.loop-place.place in
    let new = c.load_at.new.lists.items in
    let there = c.in_ok-load_at.ensures.there in (
      c.load_at.ensures.same ∙ c.loop-place.invariant.0,
      omega arith,
      lists_more is c.args.clauses.now k c.index-clauses-place.result c.loop-place.lists.items new
          c.loop-place-test.true there c.in_ok-load_at.ensures.before c.loop-place.invariant.2
          (λ e. subst (λ x. AllZip is x.now (get_or new k e).items) c.index-clauses-place.is
          (rw c.loop-place.invariant.0 at (c.in_ok-load_at.ensures.here e))),
    )
