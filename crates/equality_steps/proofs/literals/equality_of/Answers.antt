use Rattle.std.proofs.Common.{[], ◌∷◌, refl}
use Rattle.term_model.specs.Flips.{equality}
use Rattle.term_pool.specs.Trees.{app_tree}
use Rattle.equality_steps.proofs.Results.{either_way, if_ok, on_err}
use Rattle.equality_steps.proofs.literals.equality_of.Goals as goal

pub returns-clause-term : goal.returns-clause-term
returns-clause-term c t u left right =
    if_ok c.app.result _ _
    (λ r made. made c.args.symbols.now (t ∷ u ∷ []) (equality t u) (left, (right, tt)) (c.operator-equal.ensures.leaf, refl)) c.app.ensures.term

pub returns-clause-placed : goal.returns-clause-placed
returns-clause-placed c t u left right =
    let trees = left.tree ∷ right.tree ∷ [] in
    record {
      tree = app_tree c.operator-equal.result trees;
      stands = c.trees_are_built_of_parts.ensures.application c.args.symbols.now c.operator-equal.result trees (t ∷ u ∷ []) (equality t u)
          (left.stands, (right.stands, tt)) (c.operator-equal.ensures.leaf, refl);
      placed = either_way c.app.result _ _ _ (λ r built. (built trees (left.known, (right.known, tt))).placed)
          (λ full. (full trees (left.known, (right.known, tt))).placed) c.app.ensures.built c.app.ensures.full;
    }

pub returns-clause-full : goal.returns-clause-full
returns-clause-full c =
    on_err c.app.result _ _ (λ full t u left right.
    let trees = left.tree ∷ right.tree ∷ [] in
    record {
      tree = app_tree c.operator-equal.result trees;
      stands = c.trees_are_built_of_parts.ensures.application c.args.symbols.now c.operator-equal.result trees (t ∷ u ∷ []) (equality t u)
          (left.stands, (right.stands, tt)) (c.operator-equal.ensures.leaf, refl);
      full = (full trees (left.known, (right.known, tt))).full;
    }) c.app.ensures.full
