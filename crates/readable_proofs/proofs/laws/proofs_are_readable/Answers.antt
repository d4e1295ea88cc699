use Rattle.readable_proofs.proofs.ReadableProofs.{proof_readable}
use Rattle.readable_proofs.proofs.laws.proofs_are_readable.Goals as goal

pub returns : goal.returns
returns c = λ settings plan s names proof kept allows sound plan_apart h ratios.
    proof_readable settings plan s names kept sound allows plan_apart proof h ratios
