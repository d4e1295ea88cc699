use Rattle.sort_check.proofs.Judging.{judged, judged_back}
use Rattle.sort_check.proofs.laws.applications_are_judged.Goals as goal

pub returns-clause-well_sorted : goal.returns-clause-well_sorted
returns-clause-well_sorted c = judged

pub returns-clause-arguments : goal.returns-clause-arguments
returns-clause-arguments c = judged_back
