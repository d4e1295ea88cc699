use Rattle.proof_gen.proofs.Commands.{commands_of_proof, lines_of_proof}
use Rattle.proof_gen.proofs.Cutting.{proof_is_cut}
use Rattle.proof_gen.proofs.laws.proofs_have_27_commands_a_link.Goals as goal

pub returns : goal.returns
returns c = record { commands = commands_of_proof; lines = lines_of_proof; text = proof_is_cut }
