use Rattle.std.proofs.lemmas.Result.{IfOk-weaker, on_err_weaker}
use Rattle.term_pool.proofs.BuildingLemmas.{list_known, app_made, app_refused}
use Rattle.term_pool.proofs.Results.{not_zero}
use Rattle.term_pool.proofs.build.application.Goals as goal

pub pair-requires-clause-second : goal.pair-requires-clause-second
pair-requires-clause-second c = list_known _ _ _ _ c.requires.known c.in_ok-list.ensures.built

pub returns-clause-built : goal.returns-clause-built
returns-clause-built c =
    IfOk-weaker c.pair.result _ _
    (λ r i. app_made _ _ _ _ _ _ _ _ (not_zero _ _ c.is_empty.ensures c.if-is_empty.false) (c.leaf-head.ensures.stands _) c.in_ok-list.ensures.built i)
    c.pair.ensures.made

pub returns-clause-full : goal.returns-clause-full
returns-clause-full c =
    on_err_weaker c.pair.result
    (λ i. app_refused _ _ _ _ _ _ _ (not_zero _ _ c.is_empty.ensures c.if-is_empty.false) (c.leaf-head.ensures.stands _) c.in_ok-list.ensures.built i)
    c.pair.ensures.refused
