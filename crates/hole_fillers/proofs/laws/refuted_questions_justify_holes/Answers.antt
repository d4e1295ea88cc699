use Rattle.hole_fillers.proofs.Justified.{justified}
use Rattle.hole_fillers.proofs.laws.refuted_questions_justify_holes.Goals as goal

pub returns : goal.returns
returns c = justified
