use Rattle.pair_pool.proofs.EventLemmas.{new_opens, shared_opens, opening_leads_good, reached_one_term, lead_heir, lead_steps}
use Rattle.pair_pool.proofs.laws.events_lead_to_good_states.Goals as goal

pub returns-clause-opening : goal.returns-clause-opening
returns-clause-opening c = new_opens

pub returns-clause-shared : goal.returns-clause-shared
returns-clause-shared c = shared_opens

pub returns-clause-good : goal.returns-clause-good
returns-clause-good c = opening_leads_good

pub returns-clause-one_term : goal.returns-clause-one_term
returns-clause-one_term c = λ opening opens events world lead. reached_one_term world (opening_leads_good opening opens events world lead)

pub returns-clause-stays : goal.returns-clause-stays
returns-clause-stays c = lead_heir

pub returns-clause-steps : goal.returns-clause-steps
returns-clause-steps c = lead_steps
