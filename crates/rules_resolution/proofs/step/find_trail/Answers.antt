use Rattle.rules_resolution.proofs.TermAnswers.{shown_of_terms, none_of_terms}
use Rattle.rules_resolution.proofs.step.find_trail.Goals as goal

pub returns-clause-shown : goal.returns-clause-shown
returns-clause-shown c = rw c.trail_of.ensures (shown_of_terms _ _ c.args.premises.now c.args.clause.now _ c.in_ok-end.end c.in_ok-end.ensures.end)

pub returns-clause-none : goal.returns-clause-none
returns-clause-none c = rw c.trail_of.ensures (none_of_terms _ _ c.args.premises.now c.args.clause.now _ c.in_ok-end.end c.in_ok-end.ensures.end)
