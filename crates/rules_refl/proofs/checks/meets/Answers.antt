use Rattle.contexts.proofs.Results.{handed_on}
use Rattle.schema_match.proofs.StepTerms.{sides_of_step}
use Rattle.term_parts.proofs.JudgingLemmas.{sound_of, truths_are_terms}
use Rattle.rules_refl.proofs.Stating.{states_none, told_by_sides}
use Rattle.rules_refl.proofs.SideLemmas.{places_sides, lacks_sides, sides_here}
use Rattle.rules_refl.proofs.checks.meets.Goals as goal

pub equation-requires : goal.equation-requires
equation-requires c = truths_are_terms c.args.step.clause.now c.requires.step.clause

pub returns-in_default-clause-met : goal.returns-in_default-clause-met
returns-in_default-clause-met c j stands =
    states_none c.args.step c.requires.family j stands.step
    (λ t u none literal. c.in_default.ensures.other j.premises j.clause t u stands.step.premises stands.step.clause none literal)

pub become_same-requires-clause-left : goal.become_same-requires-clause-left
become_same-requires-clause-left c =
    let left = (sides_of_step c.args.step _ c.requires.step c.in-Some.ensures.equation).0 in
    rw c.equation.ensures.same (record { means = left.means; refers = left.refers })

pub become_same-requires-clause-right : goal.become_same-requires-clause-right
become_same-requires-clause-right c =
    rw c.equation.ensures.same (sides_of_step c.args.step _ c.requires.step c.in-Some.ensures.equation).1

pub returns-in_err-same-clause-placed : goal.returns-in_err-same-clause-placed
returns-in_err-same-clause-placed c j stands =
    places_sides c.args.step j stands (c.in-Some.ensures.equation j.premises j.clause stands.step.premises stands.step.clause)
    c.args.terms.now.pass c.become_same.new.terms.pass (rw c.equation.ensures.same at c.become_same.ensures.placed)

pub returns-in_err-same-clause-full : goal.returns-in_err-same-clause-full
returns-in_err-same-clause-full c =
    handed_on c.from_residual.result _ _ c.from_residual.ensures.1
    (λ full j stands.
    lacks_sides c.args.step j stands (c.in-Some.ensures.equation j.premises j.clause stands.step.premises stands.step.clause) _
    ((rw c.equation.ensures.same at c.in_err-same.ensures.full) full))

pub returns-clause-met : goal.returns-clause-met
returns-clause-met c j stands =
    let states = c.in-Some.ensures.equation j.premises j.clause stands.step.premises stands.step.clause in
    rw c.answer_of.ensures
    (told_by_sides c.args.step c.requires.family j stands.step _ states c.in_ok-same.same
    ((rw c.equation.ensures.same at c.in_ok-same.ensures.same) j.anchors states.left states.right (sides_here c.args.step j stands states)))

pub returns-clause-sound : goal.returns-clause-sound
returns-clause-sound c = sound_of _ _ c.conditions_keep_truth.ensures (returns-clause-met c)

pub returns-clause-placed : goal.returns-clause-placed
returns-clause-placed c j stands =
    places_sides c.args.step j stands (c.in-Some.ensures.equation j.premises j.clause stands.step.premises stands.step.clause)
    c.args.terms.now.pass c.become_same.new.terms.pass (rw c.equation.ensures.same at c.become_same.ensures.placed)
