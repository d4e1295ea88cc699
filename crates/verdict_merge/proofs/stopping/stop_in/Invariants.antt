use Rattle.std.proofs.Common.{All, take}
use Rattle.rule_model.specs.Statuses.{Passes}
use Rattle.verdict_merge.proofs.stopping.stop_in.Given as goal

abbrev pub invariant-statuses : goal.invariant-statuses
invariant-statuses l = All Passes (take l.place l.statuses)
