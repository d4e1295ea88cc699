use Rattle.printed_proofs.proofs.WholeProofs.{proof_read}
use Rattle.printed_proofs.proofs.laws.printed_proofs_are_read_back.Goals as goal

pub returns : goal.returns
returns c = proof_read
