use Rattle.std.proofs.Common.{◌≡◌, ◌∷◌, ◌++◌, [], length, ap, ◌∙◌, rules}
use Rattle.chain_plan.specs.declared.plan.Source.TheVariants.{Added}
use Rattle.chain_plan.proofs.Bridging.{alone, tautology_sound}
use Rattle.chain_plan.proofs.Going.{going_started, new_source, new_is_source}
use Rattle.chain_plan.proofs.opposites.begin_with.Goals as goal

pub returns-clause-sound : goal.returns-clause-sound
returns-clause-sound c t given sound items holds =
    rw c.in_ok-add_tautology.ensures (tautology_sound t given c.args.steps.now.items c.args.rule c.args.tautology.now sound items holds)

pub returns-clause-going : goal.returns-clause-going
returns-clause-going c t given items =
    let steps = c.args.steps.now.items in
    let s = alone c.args.rule c.args.tautology.now in
    let place : c.len-place.result ≡ length steps = search (rules, c.len-place.ensures) in
    rw c.in_ok-add_tautology.ensures
    (going_started t given (steps ++ s ∷ []) (Added (length steps)) c.start.new.self (new_is_source given steps s) (rw (new_source given steps s) items)
    (rw (new_source given steps s) c.in_ok-start.ensures.list) (c.in_ok-start.ensures.sources ∙ ap (λ n. Added n ∷ []) place) c.in_ok-start.ensures.pivots)
