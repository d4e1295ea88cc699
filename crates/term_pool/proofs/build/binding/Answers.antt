use Rattle.std.proofs.lemmas.Result.{IfOk-weaker, on_err_weaker}
use Rattle.sym_table.proofs.Adds.{on_err}
use Rattle.term_pool.proofs.BuildingLemmas.{two_built, first_refused, second_refused, cell_known}
use Rattle.term_pool.proofs.build.binding.Goals as goal

pub returns-in_err-first-clause-full : goal.returns-in_err-first-clause-full
returns-in_err-first-clause-full c =
    on_err c.from_residual.result
    (λ t u k l. first_refused _ _ _ _ _ t u (c.leaf.ensures.stands _) k c.in_err-first.ensures.refused)

pub pair-requires-2-clause-first : goal.pair-requires-2-clause-first
pair-requires-2-clause-first c =
    cell_known _ _ _ _ _ (c.leaf.ensures.known _) c.requires.value c.in_ok-first.ensures.made

pub returns-clause-built : goal.returns-clause-built
returns-clause-built c =
    IfOk-weaker c.pair-2.result _ _
    (λ r j t u k l. two_built _ _ _ _ _ _ _ _ _ t u (c.leaf.ensures.stands _) k l c.in_ok-first.ensures.made j)
    c.pair-2.ensures.made

pub returns-clause-full : goal.returns-clause-full
returns-clause-full c =
    on_err_weaker c.pair-2.result
    (λ j t u k l. second_refused _ _ _ _ _ _ _ _ t u (c.leaf.ensures.stands _) k l c.in_ok-first.ensures.made j)
    c.pair-2.ensures.refused
