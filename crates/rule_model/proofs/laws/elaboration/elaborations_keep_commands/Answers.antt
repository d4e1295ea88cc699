use Rattle.rule_model.proofs.Correspondence.{same_frames, clauses_stay}
use Rattle.rule_model.proofs.laws.elaboration.elaborations_keep_commands.Goals as goal

pub returns-clause-scopes : goal.returns-clause-scopes
returns-clause-scopes c checking old new e = same_frames checking old new e.kept

pub returns-clause-commands : goal.returns-clause-commands
returns-clause-commands c checking old new e = clauses_stay checking old new e.kept
