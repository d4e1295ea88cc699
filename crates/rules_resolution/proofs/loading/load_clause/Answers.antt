use Rattle.std.proofs.Common.{◌∙◌}
use Rattle.rules_resolution.proofs.Loaded.{zip_more}
use Rattle.rules_resolution.proofs.loading.load_clause.Goals as goal

pub loop-r-preserved : goal.loop-r-preserved
loop-r-preserved g c =
    let is = g.T.OfTerm.is_of c.args.symbols.now c.args.terms.now in
    let here : is c.r-item.result c.of_term.result = rw c.loop-r.invariant.0 at c.of_term.ensures.is in (
      c.of_term.ensures.same ∙ c.loop-r.invariant.0,
      rw c.in_ok-push.ensures.items
          (zip_more is c.args.clause.now c.loop-r.list.items c.loop-r.r-index c.r-item.result c.of_term.result
          c.loop-r-test.true c.loop-r.invariant.1 (rw (← c.r-item.is) here)),
    )
