use Rattle.proof_gen.proofs.Lengths.{problem_is_short, proof_is_short}
use Rattle.proof_gen.proofs.laws.texts_are_short.Goals as goal

pub returns : goal.returns
returns c = record { problem = problem_is_short; proof = proof_is_short }
