use Rattle.std.proofs.Common.{[], ◌∷◌, refl}
use Rattle.term_model.specs.Terms.{not_of}
use Rattle.term_pool.specs.Trees.{app_tree}
use Rattle.elab_resolution.proofs.Results.{if_err}
use Rattle.elab_resolution.proofs.towers.negation.Goals as goal

pub returns-in_err-made-clause-placed : goal.returns-in_err-made-clause-placed
returns-in_err-made-clause-placed c t refers =
    let not = c.operator-not.result in
    record {
      tree = app_tree not (refers.tree ∷ []);
      stands = c.trees_are_built_of_parts.ensures.application c.args.symbols.now not (refers.tree ∷ []) (t ∷ []) (not_of t) (refers.stands, tt)
          (c.operator-not.ensures.leaf, refl);
      placed = (c.in_err-made.ensures.full (refers.tree ∷ []) (refers.known, tt)).placed;
    }

pub returns-in_err-made-clause-full : goal.returns-in_err-made-clause-full
returns-in_err-made-clause-full c =
    let not = c.operator-not.result in
    if_err c.from_residual.result _ (λ e is t refers.
    record {
      tree = app_tree not (refers.tree ∷ []);
      stands = c.trees_are_built_of_parts.ensures.application c.args.symbols.now not (refers.tree ∷ []) (t ∷ []) (not_of t) (refers.stands, tt)
          (c.operator-not.ensures.leaf, refl);
      full = (c.in_err-made.ensures.full (refers.tree ∷ []) (refers.known, tt)).full;
    })

pub returns-clause-term : goal.returns-clause-term
returns-clause-term c t refers =
    c.in_ok-made.ensures.term c.args.symbols.now (t ∷ []) (not_of t) (refers, tt) (c.operator-not.ensures.leaf, refl)

pub returns-clause-placed : goal.returns-clause-placed
returns-clause-placed c t refers =
    let not = c.operator-not.result in
    record {
      tree = app_tree not (refers.tree ∷ []);
      stands = c.trees_are_built_of_parts.ensures.application c.args.symbols.now not (refers.tree ∷ []) (t ∷ []) (not_of t) (refers.stands, tt)
          (c.operator-not.ensures.leaf, refl);
      placed = (c.in_ok-made.ensures.built (refers.tree ∷ []) (refers.known, tt)).placed;
    }
