use Rattle.std.proofs.lemmas.Result.{IfOk-weaker}
use Rattle.contexts.proofs.Links.{term_shape, free_is}
use Rattle.contexts.proofs.free.free_in.Goals as goal

pub stands_free-requires : goal.stands_free-requires
stands_free-requires c = record {
  tree = c.requires.refers.tree;
  known = c.requires.refers.known;
  shape = term_shape _ c.leaves_differ.ensures.table c.requires.means c.requires.refers.tree c.requires.refers.stands;
}

pub returns-clause-exact : goal.returns-clause-exact
returns-clause-exact c =
    IfOk-weaker c.stands_free.result _ _
    (λ yes exact x t here refers.
    let is = free_is _ c.leaves_differ.ensures.table _ x here t refers.tree refers.stands in
    let found = exact refers.tree refers.known in
    (λ e. is.0 (found.0 e), λ f. found.1 (is.1 f)))
    c.stands_free.ensures.exact
