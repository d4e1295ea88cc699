use Rattle.std.proofs.Common.{arith}
use Rattle.crew_laws.specs.AnyOrder.{pass_events, seat_events}
use Rattle.crew_laws.proofs.Apart.{passes_lead, seats_lead, passes_led, seats_led, both_kinds}
use Rattle.crew_laws.proofs.laws.workers_in_any_order.Goals as goal

pub returns-clause-good : goal.returns-clause-good
returns-clause-good c n w h = c.events_lead_to_good_states.ensures.good h.opening.pool h.opens.pool (pass_events h.events) w.pool (passes_led n w h)

pub returns-clause-one_term : goal.returns-clause-one_term
returns-clause-one_term c n w h = c.events_lead_to_good_states.ensures.one_term h.opening.pool h.opens.pool (pass_events h.events) w.pool (passes_led n w h)

pub returns-clause-stays : goal.returns-clause-stays
returns-clause-stays c events old new lead = c.events_lead_to_good_states.ensures.stays (pass_events events) old.pool new.pool (passes_lead events old new lead)

pub returns-clause-once : goal.returns-clause-once
returns-clause-once c n w small h = c.events_draw_each_number_once.ensures.once n small (seat_events h.events) w.claims (seats_led n w h)

pub returns-clause-near : goal.returns-clause-near
returns-clause-near c n w small h = c.events_draw_each_number_once.ensures.near n small (seat_events h.events) w.claims (seats_led n w h)

pub returns-clause-whole : goal.returns-clause-whole
returns-clause-whole c n w small h = c.events_draw_each_number_once.ensures.whole n small (seat_events h.events) w.claims (seats_led n w h)

pub returns-clause-steps : goal.returns-clause-steps
returns-clause-steps c events old new lead =
    let of_passes = c.events_lead_to_good_states.ensures.steps (pass_events events) old.pool new.pool (passes_lead events old new lead) in
    let of_seats = c.events_draw_each_number_once.ensures.steps (seat_events events) old.claims new.claims (seats_lead events old new lead) in
    let both = both_kinds events in
    omega (arith, of_passes, of_seats, both)
