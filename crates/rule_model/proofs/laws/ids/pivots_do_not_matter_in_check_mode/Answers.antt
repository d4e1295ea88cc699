use Rattle.std.proofs.Common.{inl, refl}
use Rattle.rule_model.specs.declared.rules.Mode.{Mode}
use Rattle.rule_model.specs.Columns.{checking_in}
use Rattle.rule_model.proofs.LeftOut.{agree_but_for_pivots, statuses_there, verdict_there}
use Rattle.rule_model.proofs.laws.ids.pivots_do_not_matter_in_check_mode.Goals as goal

pub returns-clause-statuses : goal.returns-clause-statuses
returns-clause-statuses c checking p q statuses alike are =
    statuses_there (checking_in Mode.Check checking) p q (agree_but_for_pivots p q alike) (inl refl) statuses are

pub returns-clause-verdict : goal.returns-clause-verdict
returns-clause-verdict c p q statuses v alike is = verdict_there p q (agree_but_for_pivots p q alike) statuses v is
