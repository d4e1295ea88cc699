use Rattle.rule_model.proofs.Resolution.{check_sound}
use Rattle.rule_model.proofs.StrictResolution.{strict_sound}
use Rattle.rule_model.proofs.laws.resolution.resolution_is_sound.Goals as goal

pub returns-clause-check : goal.returns-clause-check
returns-clause-check c premises clause resolves I r all = check_sound I r premises clause resolves all

pub returns-clause-strict : goal.returns-clause-strict
returns-clause-strict c pivots premises clause resolves I r all = strict_sound I r pivots premises clause resolves all
