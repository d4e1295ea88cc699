use Rattle.term_model.specs.Terms.{terms_of}
use Rattle.term_pool.proofs.PlacedCells.{places_of_term, lacks_for_term}
use Rattle.flip_steps.specs.Refilling.{IsRefillingOf}
use Rattle.flip_steps.specs.Stages.{StandsBefore}
use Rattle.flip_steps.specs.Subterms.{with_arguments}
use Rattle.flip_steps.proofs.RefillLemmas.{all_known, argument_forms_later, refilled_applied, refilling_of}
use Rattle.flip_steps.proofs.Results.{on_err}
use Rattle.flip_steps.proofs.refilling.refill.Goals as goal

pub apply-requires-clause-args : goal.apply-requires-clause-args
apply-requires-clause-args c =
    let h = c.requires.forms in all_known c.args.symbols.now c.args.terms.now c.args.forms.now h.us h.refer

pub returns-in_err-made-clause-placed : goal.returns-in_err-made-clause-placed
returns-in_err-made-clause-placed c =
    let s = c.args.symbols.now in
    let v = c.args.terms.now in
    let w = c.apply.new.terms in
    let h = c.requires.forms in
    let later = argument_forms_later s v w c.args.whole c.args.head c.args.forms.now c.in_err-made.ensures.keeps h in
    places_of_term s v.pass w.pass (IsRefillingOf s w c.args.whole) (with_arguments h.term (terms_of h.us))
    (refilling_of s w c.args.whole c.args.head c.args.forms.now later)
    (c.in_err-made.ensures.placed s h.us (with_arguments h.term (terms_of h.us)) h.refer
    (refilled_applied (StandsBefore s v) s c.args.head h.term h.us h.applied h.are))

pub returns-in_err-made-clause-full : goal.returns-in_err-made-clause-full
returns-in_err-made-clause-full c =
    let s = c.args.symbols.now in
    let v = c.args.terms.now in
    let w = c.apply.new.terms in
    let h = c.requires.forms in
    let later = argument_forms_later s v w c.args.whole c.args.head c.args.forms.now c.in_err-made.ensures.keeps h in
    on_err c.from_residual.result _ (lacks_for_term s w.pass (IsRefillingOf s w c.args.whole) (with_arguments h.term (terms_of h.us))
    (refilling_of s w c.args.whole c.args.head c.args.forms.now later)
    (c.in_err-made.ensures.full s h.us (with_arguments h.term (terms_of h.us)) h.refer
    (refilled_applied (StandsBefore s v) s c.args.head h.term h.us h.applied h.are)))

pub returns-clause-refilled : goal.returns-clause-refilled
returns-clause-refilled c =
    let s = c.args.symbols.now in
    let v = c.args.terms.now in
    let w = c.apply.new.terms in
    let h = c.requires.forms in
    record {
      given = argument_forms_later s v w c.args.whole c.args.head c.args.forms.now c.in_ok-made.ensures.keeps h;
      refers = c.in_ok-made.ensures.term s h.us (with_arguments h.term (terms_of h.us)) h.refer
          (refilled_applied (StandsBefore s v) s c.args.head h.term h.us h.applied h.are);
    }

pub returns-clause-placed : goal.returns-clause-placed
returns-clause-placed c =
    let s = c.args.symbols.now in
    let v = c.args.terms.now in
    let w = c.apply.new.terms in
    let h = c.requires.forms in
    let later = argument_forms_later s v w c.args.whole c.args.head c.args.forms.now c.in_ok-made.ensures.keeps h in
    places_of_term s v.pass w.pass (IsRefillingOf s w c.args.whole) (with_arguments h.term (terms_of h.us))
    (refilling_of s w c.args.whole c.args.head c.args.forms.now later)
    (c.in_ok-made.ensures.placed s h.us (with_arguments h.term (terms_of h.us)) h.refer
    (refilled_applied (StandsBefore s v) s c.args.head h.term h.us h.applied h.are))
