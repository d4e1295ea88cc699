use Rattle.std.proofs.Common.{[], ◌∷◌, refl}
use Rattle.term_model.specs.Terms.{not_of}
use Rattle.term_pool.specs.Trees.{app_tree}
use Rattle.equality_steps.proofs.Results.{either_way, if_ok, on_err}
use Rattle.equality_steps.proofs.literals.negation_of.Goals as goal

pub returns-clause-term : goal.returns-clause-term
returns-clause-term c t refers =
    if_ok c.app.result _ _ (λ r made. made c.args.symbols.now (t ∷ []) (not_of t) (refers, tt) (c.operator-not.ensures.leaf, refl)) c.app.ensures.term

pub returns-clause-placed : goal.returns-clause-placed
returns-clause-placed c t refers = record {
  tree = app_tree c.operator-not.result (refers.tree ∷ []);
  stands = c.trees_are_built_of_parts.ensures.application c.args.symbols.now c.operator-not.result (refers.tree ∷ []) (t ∷ []) (not_of t)
      (refers.stands, tt) (c.operator-not.ensures.leaf, refl);
  placed = either_way c.app.result _ _ _ (λ r built. (built (refers.tree ∷ []) (refers.known, tt)).placed)
      (λ full. (full (refers.tree ∷ []) (refers.known, tt)).placed) c.app.ensures.built c.app.ensures.full;
}

pub returns-clause-full : goal.returns-clause-full
returns-clause-full c =
    on_err c.app.result _ _ (λ full t refers.
    record {
      tree = app_tree c.operator-not.result (refers.tree ∷ []);
      stands = c.trees_are_built_of_parts.ensures.application c.args.symbols.now c.operator-not.result (refers.tree ∷ []) (t ∷ []) (not_of t)
          (refers.stands, tt) (c.operator-not.ensures.leaf, refl);
      full = (full (refers.tree ∷ []) (refers.known, tt)).full;
    }) c.app.ensures.full
