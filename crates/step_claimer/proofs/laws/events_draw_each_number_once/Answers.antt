use Rattle.step_claimer.proofs.EventLemmas.{led_once, led_near, led_whole, lead_steps}
use Rattle.step_claimer.proofs.laws.events_draw_each_number_once.Goals as goal

pub returns-clause-once : goal.returns-clause-once
returns-clause-once c = λ n small events world lead. led_once n events world lead

pub returns-clause-near : goal.returns-clause-near
returns-clause-near c = λ n small events world lead. led_near n events world lead

pub returns-clause-whole : goal.returns-clause-whole
returns-clause-whole c = λ n small events world lead. led_whole n events world lead

pub returns-clause-steps : goal.returns-clause-steps
returns-clause-steps c = lead_steps
