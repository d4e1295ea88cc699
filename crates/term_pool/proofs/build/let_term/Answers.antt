use Rattle.std.proofs.lemmas.Result.{IfOk-weaker, on_err_weaker}
use Rattle.term_pool.specs.StandsFor.{let_tree}
use Rattle.term_pool.proofs.BuildingLemmas.{bindings_known, bindings_keep, cell_known, still_known, rest_built, headed_built, headed_refused}
use Rattle.term_pool.proofs.build.let_term.Goals as goal

pub pair-requires-clause-first : goal.pair-requires-clause-first
pair-requires-clause-first c = bindings_known _ _ _ _ _ c.requires.values c.in_ok-list.ensures.built

pub pair-requires-clause-second : goal.pair-requires-clause-second
pair-requires-clause-second c =
    still_known _ _ _ (bindings_keep _ _ _ _ _ c.requires.values c.in_ok-list.ensures.built) c.requires.body

pub pair-requires-2-clause-second : goal.pair-requires-2-clause-second
pair-requires-2-clause-second c =
    cell_known _ _ _ _ _ (bindings_known _ _ _ _ _ c.requires.values c.in_ok-list.ensures.built)
    (still_known _ _ _ (bindings_keep _ _ _ _ _ c.requires.values c.in_ok-list.ensures.built) c.requires.body)
    c.in_ok-rest.ensures.made

pub returns-clause-built : goal.returns-clause-built
returns-clause-built c =
    IfOk-weaker c.pair-2.result _ _
    (λ r j ts u h k.
    headed_built _ _ _ _ _ _ let_tree _ (c.leaf.ensures.stands _)
    (rest_built _ _ _ _ _ _ _ u (c.in_ok-list.ensures.built ts h) k c.in_ok-rest.ensures.made) j)
    c.pair-2.ensures.made

pub returns-clause-full : goal.returns-clause-full
returns-clause-full c =
    on_err_weaker c.pair-2.result
    (λ j ts u h k.
    headed_refused _ _ _ _ _ let_tree _ (c.leaf.ensures.stands _)
    (rest_built _ _ _ _ _ _ _ u (c.in_ok-list.ensures.built ts h) k c.in_ok-rest.ensures.made) j)
    c.pair-2.ensures.refused
