-- What is left is a refutation of them.
use Rattle.std.proofs.Common.{replicate}
use Rattle.rule_model.specs.declared.statuses.Status.{Status}
use Rattle.rule_model.specs.Scopes.{commands_in}
use Rattle.pruned_proofs.specs.Core.{checking_for}
use Rattle.pruned_proofs.specs.Pruned.{pruned}
use Rattle.pruned_proofs.proofs.laws.cores_are_unsatisfiable.Goals as goal

pub returns : goal.returns
returns c d proof statuses e marks numbers check formed sorted are valid first reached core =
    c.valid_proofs_are_refutations.ensures (checking_for d numbers) (pruned marks proof) (replicate (commands_in (pruned marks proof)) Status.Ok)
    (c.pruned_proofs_are_well_formed.ensures.formed proof e marks formed first.within first.scope reached)
    (c.pruned_proofs_are_well_formed.ensures.sorted proof marks sorted)
    (c.pruned_proofs_are_valid.ensures.statuses d proof statuses e marks numbers check formed are valid first reached core)
    (c.pruned_proofs_are_valid.ensures.valid proof e marks formed first reached)
