use Rattle.std.proofs.Common.{◌∙◌}
use Rattle.elab_equality.proofs.ScopeLemmas.{scope_lacks, scope_placed}
use Rattle.elab_equality.proofs.reflecting.scope.Goals as goal

pub new-requires : goal.new-requires
new-requires c = record { proof = c.requires.job.proof; stand = c.requires.job.stand }

pub enter-requires-clause-scope : goal.enter-requires-clause-scope
enter-requires-clause-scope c = rw c.scope_of-here.ensures (c.commands_stand_in_scopes.ensures c.args.at.now.proof.now c.args.at.now.command)

pub returns-in-Ok-clause-scope : goal.returns-in-Ok-clause-scope
returns-in-Ok-clause-scope c = record { kept = c.enter.ensures.kept; here = c.in-Ok.ensures.scope ∙ c.scope_of-here.ensures }

pub returns-in-Ok-clause-placed : goal.returns-in-Ok-clause-placed
returns-in-Ok-clause-placed c =
    scope_placed c.args.at.now c.args.terms.now c.enter.new.terms c.requires.job c.requires.rule c.enter.ensures.keeps
    (c.enter.ensures.placed c.requires.job.proof c.requires.job.stand)

pub returns-in-Err-clause-placed : goal.returns-in-Err-clause-placed
returns-in-Err-clause-placed c =
    scope_placed c.args.at.now c.args.terms.now c.enter.new.terms c.requires.job c.requires.rule c.enter.ensures.keeps
    (c.enter.ensures.placed c.requires.job.proof c.requires.job.stand)

pub returns-in-Err-clause-full : goal.returns-in-Err-clause-full
returns-in-Err-clause-full c is =
    scope_lacks c.args.at.now c.args.terms.now c.enter.new.terms c.requires.job c.requires.rule c.enter.ensures.keeps
    (c.in-Err.ensures.full (c.refused.ensures.full is) c.requires.job.proof c.requires.job.stand)
