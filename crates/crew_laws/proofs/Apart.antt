-- Events of passes and of seats don't touch each other's words: each kind leads by itself.
use Rattle.std.proofs.Common.{◌≡◌, ◌+◌, ℕ, List, [], ◌∷◌, length, refl, ap, subst, arith}
use Rattle.pair_pool.specs.Events as Pool
use Rattle.step_claimer.specs.Events as Claims
use Rattle.crew_laws.specs.AnyOrder.{World, Event, of_pass, of_seat, Lead, IsReached, pass_events, seat_events}

pub passes_lead : (events : List Event) (old new : World) → Lead events old new → Pool.Lead (pass_events events) old.pool new.pool
passes_lead [] old new h = ap (λ (w : World). w.pool) h
passes_lead (of_pass event ∷ events) old new h = (h.0.pool, h.1.0, passes_lead events h.0 new h.2)
passes_lead (of_seat event ∷ events) old new h = subst (λ w. Pool.Lead (pass_events events) w new.pool) h.1.1 (passes_lead events h.0 new h.2)

pub seats_lead : (events : List Event) (old new : World) → Lead events old new → Claims.Lead (seat_events events) old.claims new.claims
seats_lead [] old new h = ap (λ (w : World). w.claims) h
seats_lead (of_pass event ∷ events) old new h = subst (λ w. Claims.Lead (seat_events events) w new.claims) h.1.1 (seats_lead events h.0 new h.2)
seats_lead (of_seat event ∷ events) old new h = (h.0.claims, h.1.0, seats_lead events h.0 new h.2)

pub both_kinds : (events : List Event) → length (pass_events events) + length (seat_events events) ≡ length events
both_kinds [] = refl
both_kinds (of_pass event ∷ events) = let rest = both_kinds events in omega (arith, rest)
both_kinds (of_seat event ∷ events) = let rest = both_kinds events in omega (arith, rest)

-- from where workers begin
module _ (n : ℕ) (w : World) (h : IsReached n w) where
  pub passes_led : Pool.Lead (pass_events h.events) h.opening.pool w.pool
  passes_led = passes_lead h.events h.opening w h.lead

  pub seats_led : Claims.Lead (seat_events h.events) (Claims.opening_world n) w.claims
  seats_led = subst (λ c. Claims.Lead (seat_events h.events) c w.claims) h.opens.claims (seats_lead h.events h.opening w h.lead)
