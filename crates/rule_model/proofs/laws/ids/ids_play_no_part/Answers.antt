use Rattle.rule_model.proofs.LeftOut.{agree_but_for_ids, pivots_of_same, statuses_there, verdict_there}
use Rattle.rule_model.proofs.laws.ids.ids_play_no_part.Goals as goal

pub returns-clause-statuses : goal.returns-clause-statuses
returns-clause-statuses c checking p q statuses alike are =
    statuses_there checking p q (agree_but_for_ids p q alike) (pivots_of_same p q checking.mode alike) statuses are

pub returns-clause-verdict : goal.returns-clause-verdict
returns-clause-verdict c p q statuses v alike is = verdict_there p q (agree_but_for_ids p q alike) statuses v is
