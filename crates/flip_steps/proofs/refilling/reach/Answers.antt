use Rattle.term_pool.proofs.PlacedCells.{places_more, places_more_then, lacks_more}
use Rattle.flip_steps.specs.Refilling.{IsInOrderOf, IsRefillingOf}
use Rattle.flip_steps.specs.Stages.{IsMadeAt}
use Rattle.flip_steps.proofs.OrderLemmas.{made_at_later}
use Rattle.flip_steps.proofs.RefillLemmas.{application_of, made_ordered, made_refilling, refilled_later, stages_of}
use Rattle.flip_steps.proofs.Results.{on_err, was_err, was_ok}
use Rattle.flip_steps.proofs.refilling.reach.Goals as goal

pub returns-in_err-refilled-clause-placed : goal.returns-in_err-refilled-clause-placed
returns-in_err-refilled-clause-placed c =
    let s = c.args.symbols.now in
    let w = c.refill.new.terms in
    places_more s c.args.terms.now.pass w.pass (IsRefillingOf s w c.args.whole) (IsMadeAt s w c.args.whole) (made_refilling s w c.args.whole)
    c.in_err-refilled.ensures.placed

pub returns-in_err-refilled-clause-full : goal.returns-in_err-refilled-clause-full
returns-in_err-refilled-clause-full c =
    let s = c.args.symbols.now in
    let w = c.refill.new.terms in
    on_err c.from_residual.result _
    (lacks_more s w.pass (IsRefillingOf s w c.args.whole) (IsMadeAt s w c.args.whole) (made_refilling s w c.args.whole) c.in_err-refilled.ensures.full)

pub order-ordered-requires : goal.order-ordered-requires
order-ordered-requires c =
    application_of c.args.symbols.now c.refill.new.terms c.args.whole c.args.head c.args.forms.now c.in_ok-refilled.refilled c.in_ok-refilled.ensures.refilled

pub returns-in_err-form-clause-placed : goal.returns-in_err-form-clause-placed
returns-in_err-form-clause-placed c =
    let s = c.args.symbols.now in
    let u = c.args.terms.now in
    let v = c.refill.new.terms in
    let w = c.order-ordered.new.terms in
    let keeps = c.order-ordered.ensures.keeps in
    let there = refilled_later s v w c.args.whole c.args.head c.args.forms.now c.in_ok-refilled.refilled keeps c.in_ok-refilled.ensures.refilled in
    places_more_then s u.pass v.pass w.pass (IsMadeAt s w c.args.whole) keeps.pass
    (places_more s u.pass v.pass (IsRefillingOf s v c.args.whole) (IsMadeAt s w c.args.whole)
    (λ x h. made_at_later s v w keeps.pass.grows c.args.whole x (made_refilling s v c.args.whole x h)) c.in_ok-refilled.ensures.placed)
    (places_more s v.pass w.pass (IsInOrderOf s w c.in_ok-refilled.refilled) (IsMadeAt s w c.args.whole)
    (made_ordered s w c.leaves_differ.ensures.table c.one_to_one.ensures c.args.whole c.args.head c.args.forms.now c.in_ok-refilled.refilled there)
    c.order-ordered.ensures.placed)

pub returns-in_err-form-clause-full : goal.returns-in_err-form-clause-full
returns-in_err-form-clause-full c =
    let s = c.args.symbols.now in
    let v = c.refill.new.terms in
    let w = c.order-ordered.new.terms in
    let keeps = c.order-ordered.ensures.keeps in
    let there = refilled_later s v w c.args.whole c.args.head c.args.forms.now c.in_ok-refilled.refilled keeps c.in_ok-refilled.ensures.refilled in
    on_err c.from_residual-in_err-form.result _
    (lacks_more s w.pass (IsInOrderOf s w c.in_ok-refilled.refilled) (IsMadeAt s w c.args.whole)
    (made_ordered s w c.leaves_differ.ensures.table c.one_to_one.ensures c.args.whole c.args.head c.args.forms.now c.in_ok-refilled.refilled there)
    (was_err c.order-ordered.result _ _ c.in_err-form.was c.order-ordered.ensures.full))

pub returns-clause-stages : goal.returns-clause-stages
returns-clause-stages c =
    let s = c.args.symbols.now in
    let v = c.refill.new.terms in
    let w = c.order-ordered.new.terms in
    stages_of s w c.leaves_differ.ensures.table c.one_to_one.ensures c.args.whole c.args.head c.args.forms.now c.in_ok-refilled.refilled c.in_ok-form.form
    (refilled_later s v w c.args.whole c.args.head c.args.forms.now c.in_ok-refilled.refilled c.order-ordered.ensures.keeps c.in_ok-refilled.ensures.refilled)
    (was_ok c.order-ordered.result _ _ c.in_ok-form.was c.order-ordered.ensures.ordered)

pub returns-clause-placed : goal.returns-clause-placed
returns-clause-placed c =
    let s = c.args.symbols.now in
    let u = c.args.terms.now in
    let v = c.refill.new.terms in
    let w = c.order-ordered.new.terms in
    let keeps = c.order-ordered.ensures.keeps in
    let there = refilled_later s v w c.args.whole c.args.head c.args.forms.now c.in_ok-refilled.refilled keeps c.in_ok-refilled.ensures.refilled in
    places_more_then s u.pass v.pass w.pass (IsMadeAt s w c.args.whole) keeps.pass
    (places_more s u.pass v.pass (IsRefillingOf s v c.args.whole) (IsMadeAt s w c.args.whole)
    (λ x h. made_at_later s v w keeps.pass.grows c.args.whole x (made_refilling s v c.args.whole x h)) c.in_ok-refilled.ensures.placed)
    (places_more s v.pass w.pass (IsInOrderOf s w c.in_ok-refilled.refilled) (IsMadeAt s w c.args.whole)
    (made_ordered s w c.leaves_differ.ensures.table c.one_to_one.ensures c.args.whole c.args.head c.args.forms.now c.in_ok-refilled.refilled there)
    c.order-ordered.ensures.placed)
