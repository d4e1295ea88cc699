use Rattle.std.proofs.Common.{Contains, take}
use Rattle.rule_model.specs.declared.statuses.Status.{Status}
use Rattle.verdict_merge.proofs.holes.is_among.Given as goal

abbrev pub invariant-statuses : goal.invariant-statuses
invariant-statuses l = ¬ Contains (take l.status-index l.statuses) Status.Hole
