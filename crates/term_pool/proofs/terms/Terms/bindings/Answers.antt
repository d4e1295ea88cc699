use Rattle.std.proofs.lemmas.Result.{on_ok_weaker}
use Rattle.term_pool.proofs.PartLemmas.{let_list, added_bindings, pairs_kept_leaves, pairs_kept}
use Rattle.term_pool.proofs.terms.Terms.bindings.Goals as goal

pub pairs-requires-clause-list : goal.pairs-requires-clause-list
pairs-requires-clause-list c =
    rw (c.parts-list.ensures.same, c.parts-rest.ensures.same)
    (let_list _ _ _ _ (rw (← c.self.view_is) at c.requires) c.parts-rest.ensures.second
    (rw c.parts-rest.ensures.same at c.parts-list.ensures.first))

pub returns-clause-kept_vars : goal.returns-clause-kept_vars
returns-clause-kept_vars c = on_ok_weaker c.pairs.result (λ adds. pairs_kept_leaves _ _ _ _ _ _ adds) c.pairs.ensures.added

pub returns-clause-kept_values : goal.returns-clause-kept_values
returns-clause-kept_values c = on_ok_weaker c.pairs.result (λ adds. pairs_kept _ _ _ _ _ _ adds) c.pairs.ensures.added

pub returns-clause-bindings : goal.returns-clause-bindings
returns-clause-bindings c =
    rw (← c.self.view_is, c.pairs.ensures.same, c.parts-list.ensures.same, c.parts-rest.ensures.same)
    (on_ok_weaker c.pairs.result
    (λ adds s bs u h.
    added_bindings s _ c.args.r _ _ _ _ _ _ c.parts-rest.ensures.second
    (rw c.parts-rest.ensures.same at c.parts-list.ensures.first) adds bs u h)
    (rw (c.parts-list.ensures.same, c.parts-rest.ensures.same) at c.pairs.ensures.added))
