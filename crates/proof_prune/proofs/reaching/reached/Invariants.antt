use Rattle.std.proofs.Common.{◌≤◌}
use Rattle.rule_model.specs.Scopes.{commands_in}
use Rattle.proof_prune.specs.Marking.{AreMarksFrom}
use Rattle.proof_prune.proofs.reaching.reached.Given as goal

abbrev pub invariant-commands : goal.invariant-commands
invariant-commands l = AreMarksFrom l.proof l.from l.i l.marks.commands.items l.marks.scopes.items × (l.i ≤ commands_in l.proof)

abbrev pub decreases-commands : goal.decreases-commands
decreases-commands l = l.i
