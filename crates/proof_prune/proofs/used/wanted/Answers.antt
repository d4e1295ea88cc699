use Rattle.proof_prune.proofs.Wanted.{none_yet}
use Rattle.proof_prune.proofs.used.wanted.Goals as goal

pub commands-init : goal.commands-init
commands-init c = rw c.new-list.ensures.items (none_yet c.args.kept.now c.args.proof.now)
