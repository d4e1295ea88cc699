use Rattle.lone_rules.proofs.Lone.{not_resolution, not_refl, not_subproof}
use Rattle.lone_rules.proofs.asking.judge_lone.Goals as goal

pub judge-requires-clause-resolution : goal.judge-requires-clause-resolution
judge-requires-clause-resolution c = not_resolution c.args.step.rule c.in-Judged.family c.requires.asked (cc)

pub judge-requires-clause-refl : goal.judge-requires-clause-refl
judge-requires-clause-refl c = not_refl c.args.step.rule c.in-Judged.family c.requires.asked (cc)

pub judge-requires-clause-subproof : goal.judge-requires-clause-subproof
judge-requires-clause-subproof c = not_subproof c.args.step.rule c.in-Judged.family c.requires.asked (cc)
