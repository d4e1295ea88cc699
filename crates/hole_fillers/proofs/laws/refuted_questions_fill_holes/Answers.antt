use Rattle.hole_fillers.proofs.Refuting.{refuted}
use Rattle.hole_fillers.proofs.laws.refuted_questions_fill_holes.Goals as goal

pub returns : goal.returns
returns c = refuted
