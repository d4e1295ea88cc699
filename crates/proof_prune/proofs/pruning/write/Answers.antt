use Rattle.std.proofs.Common.{◌≡◌, ◌∙◌, ap, subst, arith}
use Rattle.rule_model.specs.Scopes.{commands_in}
use Rattle.proof_prune.specs.Order.{written_to}
use Rattle.proof_prune.specs.Pruning.{state_of, job_of, IsWrittenTo}
use Rattle.proof_prune.proofs.OldLines.{written_whole}
use Rattle.proof_prune.proofs.pruning.write.Goals as goal

pub returns : goal.returns
returns c =
    let proof = c.args.parts.now.proof.now in
    let whole : c.commands.i ≡ commands_in proof = omega arith in
    subst (λ o. IsWrittenTo (job_of c.args.parts.now) o (state_of c.commands.written)) (ap (written_to proof) whole ∙ written_whole proof) c.commands.invariant
