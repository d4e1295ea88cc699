use Rattle.std.proofs.Common.{All, subst}
use Rattle.std.proofs.lemmas.List.{take_all}
use Rattle.rule_model.specs.Statuses.{Passes}
use Rattle.verdict_merge.proofs.Joining.{all_next}
use Rattle.verdict_merge.proofs.stopping.stop_in.Goals as goal

pub statuses-preserved : goal.statuses-preserved
statuses-preserved c = all_next Passes _ _ _ c.statuses-test.true c.statuses.invariant c.in_default.ensures.goes_on

pub returns-clause-goes_on : goal.returns-clause-goes_on
returns-clause-goes_on c = subst (All Passes) (take_all _ _ c.statuses-test.false) c.statuses.invariant
