use Rattle.std.proofs.Common.{◌≡◌, subst}
use Rattle.pair_pool.specs.Trees.{Tree}
use Rattle.term_model.specs.Terms.{Term}
use Rattle.term_pool.specs.StandsFor.{StandsFor}
use Rattle.elab_resolution.specs.Placed.{PlacesAtMost}
use Rattle.elab_resolution.specs.Spellings.{IsNearTo}
use Rattle.elab_resolution.proofs.NearCells.{HasLevelTrees, level_trees, near_among}
use Rattle.elab_resolution.proofs.PlacedLemmas.{places_few}
use Rattle.elab_resolution.proofs.laws.near_cells_are_few.Goals as goal

pub returns : goal.returns
returns c s old new roots table earlier later one grows known places =
    subst (PlacesAtMost old.pass new.pass) six.count
    (places_few old.pass new.pass grows one earlier later s (IsNearTo roots) six.trees places (near_among s table one_tree old roots known))
  where
    one_tree : (a b : Tree) (t : Term) → StandsFor s a t → StandsFor s b t → a ≡ b
    one_tree a b t = c.trees_of_terms.ensures.one_tree s a b t table

    six : HasLevelTrees s table one_tree old roots
    six = level_trees s table one_tree old roots known
