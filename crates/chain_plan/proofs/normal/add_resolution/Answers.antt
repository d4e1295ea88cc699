use Rattle.chain_plan.proofs.Going.{keeps_one}
use Rattle.chain_plan.proofs.Resolving.{resolution_sound, resolution_of}
use Rattle.chain_plan.proofs.normal.add_resolution.Goals as goal

pub returns-clause-kept : goal.returns-clause-kept
returns-clause-kept c =
    rw (c.in_ok-push.ensures.items, c.in_ok-step.ensures) (keeps_one c.args.steps.now.items (resolution_of c.args.carry.now))

pub returns-clause-sound : goal.returns-clause-sound
returns-clause-sound c t given sound going =
    rw (c.in_ok-push.ensures.items, c.in_ok-step.ensures)
    (resolution_sound t given c.args.steps.now.items c.args.carry.now sound going c.requires)
