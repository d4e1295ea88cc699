-- Anchor by anchor.
use Rattle.elaboration_laws.proofs.Anchors.{own_stand}
use Rattle.elaboration_laws.proofs.Reading.{anchors_stand}
use Rattle.elaboration_laws.proofs.laws.anchors_correspond.Goals as goal

pub returns-clause-at : goal.returns-clause-at
returns-clause-at c s v refs proof i h = anchors_stand s v refs proof h i

pub returns-clause-own : goal.returns-clause-own
returns-clause-own c s v refs proof i h = (_, own_stand s v refs proof h i)
