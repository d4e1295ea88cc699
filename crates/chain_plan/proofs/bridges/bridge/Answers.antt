use Rattle.std.proofs.Common.{◌≡◌, length, rules}
use Rattle.chain_plan.proofs.Bridging.{alone, tautology_sound, bridged}
use Rattle.chain_plan.proofs.Going.{keeps_one}
use Rattle.chain_plan.proofs.bridges.bridge.Goals as goal

pub returns-clause-sound : goal.returns-clause-sound
returns-clause-sound c t given sound items holds =
    rw c.in_ok-add_tautology.ensures (tautology_sound t given c.args.steps.now.items c.args.rule c.args.tautology.now sound items holds)

pub returns-clause-kept : goal.returns-clause-kept
returns-clause-kept c = rw c.in_ok-add_tautology.ensures (keeps_one c.args.steps.now.items (alone c.args.rule c.args.tautology.now))

pub returns-clause-going : goal.returns-clause-going
returns-clause-going c t given going negation literals =
    let place : c.len-place.result ≡ length c.args.steps.now.items = search (rules, c.len-place.ensures) in
    rw c.in_ok-add_tautology.ensures
    (bridged t given c.args.steps.now.items c.args.carry.now c.resolve.new.self c.args.rule c.args.tautology.now
    c.args.pivot.0 c.args.pivot.1 c.len-place.result going negation literals c.in_ok-resolve.ensures.joined c.in_ok-resolve.ensures.sources
    c.in_ok-resolve.ensures.pivots place)
